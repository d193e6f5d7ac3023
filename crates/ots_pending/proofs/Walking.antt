-- The numbers of the messages on the path of a walk.
use Rattle.std.proofs.Common.{◌≡◌, ℕ, zero, suc, ◌+◌, ◌<◌, ◌≤◌, inl, inr, List, [], ◌∷◌, ◌++◌, map, length, get_or, take, Option, Some, None, refl, sym, ap, subst, ◌∙◌, arith}
use Rattle.std.specs.Prelude.{◌⊎◌, option_to_list, slice_set}
use Rattle.std.specs.List.{slice_get}
use Rattle.ots_ops.specs.declared.op.Op.{Op}
use Rattle.ots_attest.specs.declared.attestation.Attestation.TheVariants as attestation
use Rattle.ots_tree.specs.declared.pending.PendingAt.{PendingAt}
use Rattle.ots_tree.specs.declared.token.Token.{Token}
use Rattle.ots_tree.specs.declared.token.Token.TheVariants as token
use Rattle.ots_tree.specs.Pending.{asked}
use Rattle.ots_tree.specs.PendingWalk.{added, followed, result_at}
use Rattle.ots_pending.specs.declared.kept_pair.KeptPair.{KeptPair}
use Rattle.ots_pending.specs.declared.listing.Listing.{Listing}
use Rattle.ots_pending.specs.declared.path.Path.{Path}
use Rattle.ots_pending.specs.Distinct.{AreDistinct, IsNumbered}
use Rattle.ots_pending.specs.Pairs.{PairAt}
use Rattle.ots_pending.specs.Listed.{key, pair_in, pairs_in, with_found, with_pair, Adds, IsKept}
use Rattle.ots_pending.specs.OnPath.{HasNumber, AreNumbers, AreStill, Numbers, Notes, kept_at}
use Rattle.ots_pending.proofs.Maps.{get_before, in_range}
use Rattle.ots_pending.proofs.Lists.{none_some, or_of_get, get_of_or}

pub set_kept : (xs : List (Option ℕ)) (depth number : ℕ) → depth < length xs → slice_set xs depth (Some number) ≡ kept_at xs depth number
set_kept [] depth number h = absurd (omega arith)
set_kept (x ∷ xs) zero number h = refl
set_kept (x ∷ xs) (suc depth) number h = ap (λ (z : List (Option ℕ)). x ∷ z) (set_kept xs depth number (omega arith))

pub none_kept : (xs : List (Option ℕ)) (depth number : ℕ) → length xs ≤ depth → xs ≡ kept_at xs depth number
none_kept [] depth number h = refl
none_kept (x ∷ xs) zero number h = absurd (omega arith)
none_kept (x ∷ xs) (suc depth) number h = ap (λ (z : List (Option ℕ)). x ∷ z) (none_kept xs depth number (omega arith))

pub length_kept : (xs : List (Option ℕ)) (depth number : ℕ) → length (kept_at xs depth number) ≡ length xs
length_kept [] depth number = refl
length_kept (x ∷ xs) zero number = refl
length_kept (x ∷ xs) (suc depth) number = ap suc (length_kept xs depth number)

-- ---- more messages

pub still_of : (old new : List (List ℕ)) (m : List ℕ) (n : ℕ) → IsNumbered old new m n → AreStill old new
still_of old new m n h i x e = elim h.grown [
  | inl g ↦ ap (λ (z : List (List ℕ)). slice_get z i) g.1 ∙ e
  | inr g ↦ ap (λ (z : List (List ℕ)). slice_get z i) g.1 ∙ get_before old m x i e
]

has_still : (old new path : List (List ℕ)) (depth number : ℕ) → AreStill old new → HasNumber old path depth number → HasNumber new path depth number
has_still old new path depth number still h = record { message = h.message; here = h.here; there = still number h.message h.there }

get_kept : (xs : List (Option ℕ)) (depth number d n : ℕ) → slice_get (kept_at xs depth number) d ≡ Some (Some n) → (slice_get xs d ≡ Some (Some n)) ⊎ ((d ≡ depth) × (n ≡ number))
get_kept [] depth number d n h = inl h
get_kept (x ∷ xs) zero number zero n h = inr (refl, (let same : (let o : Option (Option ℕ) = Some (Some number) in o) ≡ Some (Some n) = h in cc))
get_kept (x ∷ xs) zero number (suc d) n h = inl h
get_kept (x ∷ xs) (suc depth) number zero n h = inl h
get_kept (x ∷ xs) (suc depth) number (suc d) n h = elim (get_kept xs depth number d n h) [ inl k ↦ inl k | inr k ↦ inr (ap suc k.0, k.1) ]

module _ (old_all all : List (List ℕ)) (old new : Path) (depth : ℕ) (m : List ℕ) (n : ℕ) where
  pub numbered : AreNumbers old_all old → IsNumbered old_all all m n → AreDistinct all → slice_get old.messages depth ≡ Some m
      → new.messages ≡ old.messages → new.numbers.items ≡ kept_at old.numbers.items depth n → Numbers old_all all old new depth (Some n)
  numbered numbers is distinct here same kept =
      let still : AreStill old_all all = still_of old_all all m n is in
      let one : HasNumber all new.messages depth n = record { message = m; here = ap (λ (z : List (List ℕ)). slice_get z depth) same ∙ here; there = is.place } in
      record {
        distinct = distinct;
        still = still;
        path = same;
        numbers = λ d k h. elim (get_kept old.numbers.items depth n d k (ap (λ (z : List (Option ℕ)). slice_get z d) (sym kept) ∙ h)) [
          | inl g ↦ subst (λ (z : List (List ℕ)). HasNumber all z d k) (sym same) (has_still old_all all old.messages d k still (numbers d k g))
          | inr g ↦ subst (λ (z : ℕ). HasNumber all new.messages z k) (sym g.0) (subst (λ (z : ℕ). HasNumber all new.messages depth z) (sym g.1) one)
        ];
        is = one;
      }

pub no_number : (all : List (List ℕ)) (path : Path) (depth : ℕ) → AreDistinct all → AreNumbers all path → slice_get path.messages depth ≡ None
    → Numbers all all path path depth None
no_number all path depth distinct numbers none = record { distinct = distinct; still = λ i m h. h; path = refl; numbers = numbers; is = none }

pub same_number : (all : List (List ℕ)) (path : Path) (depth n : ℕ) → AreDistinct all → AreNumbers all path → slice_get path.numbers.items depth ≡ Some (Some n)
    → Numbers all all path path depth (Some n)
same_number all path depth n distinct numbers known = record { distinct = distinct; still = λ i m h. h; path = refl; numbers = numbers; is = numbers depth n known }

-- ---- the path goes on

before_end : (xs ys : List (Option ℕ)) (k d n : ℕ) → ((e : ℕ) → slice_get ys e ≡ Some (Some n) → ⊥) → slice_get (take k xs ++ ys) d ≡ Some (Some n)
    → (slice_get xs d ≡ Some (Some n)) × (d < k)
before_end [] ys zero d n none h = absurd (none d h)
before_end [] ys (suc k) d n none h = absurd (none d h)
before_end (x ∷ xs) ys zero d n none h = absurd (none d h)
before_end (x ∷ xs) ys (suc k) zero n none h = (h, omega arith)
before_end (x ∷ xs) ys (suc k) (suc d) n none h = let r = before_end xs ys k d n none h in (r.0, (let less = r.1 in omega arith))

pub still_before : (xs ys : List (List ℕ)) (k d : ℕ) (m : List ℕ) → slice_get xs d ≡ Some m → d < k → slice_get (take k xs ++ ys) d ≡ Some m
still_before [] ys k d m h low = absurd (none_some m h)
still_before (x ∷ xs) ys zero d m h low = absurd (omega arith)
still_before (x ∷ xs) ys (suc k) zero m h low = h
still_before (x ∷ xs) ys (suc k) (suc d) m h low = still_before xs ys k d m h (omega arith)

pub numbers_follow : (all : List (List ℕ)) (old new : Path) (k : ℕ) (ms : List (List ℕ)) (ns : List (Option ℕ)) → ((e n : ℕ) → slice_get ns e ≡ Some (Some n) → ⊥)
    → new.messages ≡ take k old.messages ++ ms → new.numbers.items ≡ take k old.numbers.items ++ ns → AreNumbers all old → AreNumbers all new
numbers_follow all old new k ms ns none messages numbers h d n e =
    let r = before_end old.numbers.items ns k d n (λ i. none i n) (ap (λ (z : List (Option ℕ)). slice_get z d) (sym numbers) ∙ e) in
    let x = h d n r.0 in
    record { message = x.message; here = ap (λ (z : List (List ℕ)). slice_get z d) messages ∙ still_before old.messages ms k d x.message x.here r.1; there = x.there }

pub op_followed : (x : Token) (o : Op) (d : ℕ) (ms : List (List ℕ)) → x ≡ token.Op o → followed x d ms ≡ take (d + 1) ms ++ option_to_list (result_at o d ms)
op_followed x o d ms is = ap (λ (z : Token). followed z d ms) is

pub none_noted : (e n : ℕ) → slice_get (let one : List (Option ℕ) = None ∷ [] in one) e ≡ Some (Some n) → ⊥
none_noted zero n h = absurd (let no : (let o : Option (Option ℕ) = Some None in o) ≡ Some (Some n) = h in cc)
none_noted (suc e) n h = absurd (let no : (let o : Option (Option ℕ) = None in o) ≡ Some (Some n) = h in cc)

pub nothing_noted : (e n : ℕ) → slice_get (let one : List (Option ℕ) = [] in one) e ≡ Some (Some n) → ⊥
nothing_noted e n h = absurd (let no : (let o : Option (Option ℕ) = None in o) ≡ Some (Some n) = h in cc)

-- ---- the pairs stay where messages are added

module _ (l new : Listing) (kept : IsKept l) (keys : new.keys ≡ l.keys) (asked : new.asked.items ≡ l.asked.items) (distinct : AreDistinct new.messages) (still : AreStill l.messages new.messages) where
  more_range : (i : ℕ) → i < length l.messages → i < length new.messages
  more_range i h = in_range new.messages (get_or l.messages i []) i (still i (get_or l.messages i []) (get_of_or l.messages i [] h))

  asked_at : (i : ℕ) (a : KeptPair) → slice_get new.asked.items i ≡ Some a → slice_get l.asked.items i ≡ Some a
  asked_at i a h = ap (λ (z : List KeptPair). slice_get z i) (sym asked) ∙ h

  pub kept_more : IsKept new
  kept_more = record {
    messages = distinct;
    keys = subst AreDistinct (sym keys) kept.keys;
    keys_are = keys ∙ kept.keys_are ∙ ap (map key) (sym asked);
    in_range = λ i a h. more_range a.message (kept.in_range i a (asked_at i a h));
    fits = λ i a h. kept.fits i a (asked_at i a h);
  }

  same_message : (i : ℕ) → i < length l.messages → get_or new.messages i [] ≡ get_or l.messages i []
  same_message i h = or_of_get new.messages i (get_or l.messages i []) [] (still i (get_or l.messages i []) (get_of_or l.messages i [] h))

  same_pairs : (xs : List KeptPair) → ((i : ℕ) (a : KeptPair) → slice_get xs i ≡ Some a → a.message < length l.messages) → map (pair_in new.messages) xs ≡ map (pair_in l.messages) xs
  same_pairs [] low = refl
  same_pairs (a ∷ xs) low =
      let here : pair_in new.messages a ≡ pair_in l.messages a =
      ap (λ (z : List ℕ). let p : PairAt = record { pair = record { uri = a.uri; message = z }; depth = a.depth } in p) (same_message a.message (low 0 a refl)) in
      ap (λ (z : PairAt). z ∷ map (pair_in new.messages) xs) here
      ∙ ap (λ (z : List PairAt). pair_in l.messages a ∷ z) (same_pairs xs (λ i b h. low (suc i) b h))

  pub pairs_more : pairs_in new ≡ pairs_in l
  pairs_more = ap (map (pair_in new.messages)) asked ∙ same_pairs l.asked.items kept.in_range

-- ---- what a token adds is noted

abbrev more_messages : Listing → Listing → Type 0
more_messages l new = (new.keys ≡ l.keys) × (new.asked.items ≡ l.asked.items)

module _ (l mid : Listing) (old path : Path) (x : Token) (uri : List ℕ) (depth : ℕ) (kept : IsKept l) (same : more_messages l mid)
    (pending : x ≡ token.Attestation (attestation.Pending uri)) where
  pub mid_kept : (n : Option ℕ) → Numbers l.messages mid.messages old path depth n → IsKept mid
  mid_kept n h = kept_more l mid kept same.0 same.1 h.distinct h.still

  pub none_notes : Numbers l.messages mid.messages old path depth None → Notes l mid old path x depth
  none_notes h =
      let none : slice_get old.messages depth ≡ None = ap (λ (z : List (List ℕ)). slice_get z depth) (sym h.path) ∙ h.is in
      record {
        kept = mid_kept None h;
        path = h.path;
        numbers = h.numbers;
        pairs = λ n.
            let nothing : added x depth n old.messages ≡ [] = ap (λ (z : Token). added z depth n old.messages) pending ∙ ap (asked n depth (attestation.Pending uri)) none in
            pairs_more l mid kept same.0 same.1 h.distinct h.still ∙ ap (λ (z : List PendingAt). with_found z (pairs_in l)) (sym nothing);
      }

  pub one_notes : (number : ℕ) (new : Listing) → Numbers l.messages mid.messages old path depth (Some number)
      → ((m : List ℕ) → slice_get mid.messages number ≡ Some m → Adds mid new (record { pair = record { uri = uri; message = m }; depth = depth }))
      → Notes l new old path x depth
  one_notes number new h adds =
      let m = h.is.message in
      let a = adds m h.is.there in
      let here : slice_get old.messages depth ≡ Some m = ap (λ (z : List (List ℕ)). slice_get z depth) (sym h.path) ∙ h.is.here in
      record {
        kept = a.kept;
        path = h.path;
        numbers = subst (λ (z : List (List ℕ)). AreNumbers z path) (sym a.messages) h.numbers;
        pairs = λ n.
            let one : added x depth n old.messages ≡ record { path = n; depth = depth; uri = uri; message = m } ∷ [] =
            ap (λ (z : Token). added z depth n old.messages) pending ∙ ap (asked n depth (attestation.Pending uri)) here in
            a.added
            ∙ ap (with_pair (record { pair = record { uri = uri; message = m }; depth = depth })) (pairs_more l mid kept same.0 same.1 h.distinct h.still)
            ∙ ap (λ (z : List PendingAt). with_found z (pairs_in l)) (sym one);
      }
