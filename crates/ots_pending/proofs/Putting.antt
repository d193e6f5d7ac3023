-- Putting the items of a tree at a pending attestation.
use Rattle.std.proofs.Common.{◌≡◌, ℕ, zero, suc, ◌+◌, ◌<◌, ◌≤◌, inl, inr, Bool, true, false, List, [], ◌∷◌, ◌++◌, map, length, take, drop, get_or, Option, Some, None, refl, sym, ap, subst, ◌∙◌, arith, append_assoc, add-one}
use Rattle.std.specs.Prelude.{option_map, option_and_then, ◌⊎◌}
use Rattle.std.specs.List.{slice_get}
use Rattle.std.proofs.lemmas.List.{append-nil, length-map, length-append, map-append, drop_all, take_all}
use Rattle.ots_attest.specs.declared.attestation.Attestation.TheVariants as attestation
use Rattle.ots_tree.specs.declared.token.Token.{Token}
use Rattle.ots_tree.specs.declared.token.Token.TheVariants as token
use Rattle.ots_tree.specs.declared.token.TokenAt.{TokenAt}
use Rattle.ots_tree.specs.Kept.{beside}
use Rattle.ots_tree.specs.PendingWalk.{ended, followed}
use Rattle.ots_tree.specs.Made.{lone, joined, IsBeside}
use Rattle.ots_tree.specs.Wire.{Node, last, more, attested, pre, pre_item}
use Rattle.ots_tree.proofs.Determined.{same_pre}
use Rattle.ots_tree.proofs.Numbered.{beside_at, length-beside}
use Rattle.ots_pending.specs.Pairs.{PairAt}
use Rattle.ots_pending.specs.Grown.{forked, answer_at, put, is_fork, GrowsInPart, MayBe, IsReady, IsReadyAt, AreReady, AreReadyTo, ArePut, AreTrees, IsTree, IsPairOf, IsPutFor, last_first, turned, put_ready, tree_at}
use Rattle.ots_pending.proofs.Maps.{get_last, in_range}
use Rattle.ots_pending.proofs.Lists.{some_same, none_some}

pub joined_pre : (t u : Node) → pre (joined t u) ≡ forked t ++ pre u
joined_pre (last i) u = refl
joined_pre (more i t) u = ap (λ (z : List Token). token.Fork ∷ (pre_item i ++ z)) (joined_pre t u) ∙ ap (λ (z : List Token). token.Fork ∷ z) (sym (append_assoc (pre_item i) (forked t) (pre u)))

-- ---- ready trees

earlier : (k i : ℕ) → k < i + 1 → (k < i) ⊎ (k ≡ i)
earlier zero zero h = inr refl
earlier zero (suc i) h = inl (omega arith)
earlier (suc k) zero h = absurd (omega arith)
earlier (suc k) (suc i) h = elim (earlier k i (omega arith)) [ inl less ↦ inl (omega arith) | inr same ↦ inr (ap suc same) ]

pub ready_some : (t : Option Node) (uri : List ℕ) (tree pending made : List Token) → option_map pre t ≡ Some tree
    → pending ≡ pre (lone [] (attestation.Pending uri)) → IsBeside tree pending made → IsReady uri t (Some made)
ready_some None uri tree pending made e p b = absurd (none_some tree e)
ready_some (Some t) uri tree pending made e p b =
    let one : b.one ≡ t = same_pre b.one t (b.one_is ∙ sym (some_same (pre t) tree e)) in
    let end : b.other ≡ last (attested (attestation.Pending uri)) = same_pre b.other (last (attested (attestation.Pending uri))) (b.other_is ∙ p) in
    sym b.made_is ∙ (λ i. pre (joined (one i) (end i))) ∙ joined_pre t (last (attested (attestation.Pending uri)))

pub ready_none : (t : Option Node) (uri : List ℕ) → option_map pre t ≡ None → IsReady uri t None
ready_none None uri e = tt
ready_none (Some t) uri e = absurd (let no : (let o : Option (List Token) = Some (pre t) in o) ≡ None = e in cc)

ready_before : (uri : List ℕ) (t : Option Node) (xs : List (Option (List Token))) (x : Option (List Token)) (i : ℕ) → IsReadyAt uri t (slice_get xs i) → IsReadyAt uri t (slice_get (xs ++ x ∷ []) i)
ready_before uri t [] x i h = absurd h
ready_before uri t (y ∷ xs) x zero h = h
ready_before uri t (y ∷ xs) x (suc i) h = ready_before uri t xs x i h

mapped : (given : List (Option Node)) (i : ℕ) (t : Option Node) → slice_get given i ≡ Some t → slice_get (map (option_map pre) given) i ≡ Some (option_map pre t)
mapped [] i t h = absurd (none_some t h)
mapped (u ∷ given) zero t h = ap (λ (z : Option Node). Some (option_map pre z)) (some_same u t h)
mapped (u ∷ given) (suc i) t h = mapped given i t h

pub given_at : (given : List (Option Node)) (trees : List (Option (List Token))) (i : ℕ) (t : Option Node) → map (option_map pre) given ≡ trees → slice_get given i ≡ Some t
    → slice_get trees i ≡ Some (option_map pre t)
given_at given trees i t e h = ap (λ (z : List (Option (List Token))). slice_get z i) (sym e) ∙ mapped given i t h

-- ---- what is given is trees

take_suc : {X : Type 0} (xs : List X) (i : ℕ) (d : X) → i < length xs → take (suc i) xs ≡ take i xs ++ get_or xs i d ∷ []
take_suc [] i d low = absurd (omega arith)
take_suc (x ∷ xs) zero d low = refl
take_suc {X} (x ∷ xs) (suc i) d low = ap (λ (z : List X). x ∷ z) (take_suc xs i d (omega arith))

take_next : {X : Type 0} (xs : List X) (i : ℕ) (d : X) → i < length xs → take (i + 1) xs ≡ take i xs ++ get_or xs i d ∷ []
take_next xs i d low = rw (add-one i) (take_suc xs i d low)

pub trees_more : (trees : List (Option (List Token))) (i : ℕ) (d : Option (List Token)) → i < length trees → AreTrees (take i trees) → IsTree (get_or trees i d) → AreTrees (take (i + 1) trees)
trees_more trees i d low t one = record {
  given = t.given ++ one.given ∷ [];
  are = map-append (option_map pre) t.given (one.given ∷ []) ∙ ap (λ (z : List (Option (List Token))). z ++ option_map pre one.given ∷ []) t.are
      ∙ ap (λ (z : Option (List Token)). take i trees ++ z ∷ []) one.is ∙ sym (take_next trees i d low);
}

pub trees_all : (trees : List (Option (List Token))) (i : ℕ) → length trees ≤ i → AreTrees (take i trees) → AreTrees trees
trees_all trees i low t = subst AreTrees (take_all i trees low) t

pub record Ready (pairs : List PairAt) (trees ready : List (Option (List Token))) (i : ℕ) : Type 0 where
  pub long : length ready ≡ i
  pub each : (given : List (Option Node)) → map (option_map pre) given ≡ trees → AreReadyTo i pairs given ready

pub none_ready : (pairs : List PairAt) (trees ready : List (Option (List Token))) → ready ≡ [] → Ready pairs trees ready 0
none_ready pairs trees ready e = record { long = ap (λ (z : List (Option (List Token))). length z) e; each = λ given is i p t low. absurd (omega arith) }

module _ (pairs : List PairAt) (trees ready : List (Option (List Token))) (i : ℕ) (uri : List ℕ) (tree made : Option (List Token)) where
  last_ready : Ready pairs trees ready i → slice_get trees i ≡ Some tree → ((p : PairAt) → slice_get pairs i ≡ Some p → uri ≡ p.pair.uri)
      → ((t : Option Node) → option_map pre t ≡ tree → IsReady uri t made)
      → (given : List (Option Node)) → map (option_map pre) given ≡ trees → (p : PairAt) (t : Option Node) → slice_get pairs i ≡ Some p → slice_get given i ≡ Some t
      → IsReadyAt p.pair.uri t (slice_get (ready ++ made ∷ []) i)
  last_ready h there uri_is is given e p t at got =
      let same : option_map pre t ≡ tree = some_same (option_map pre t) tree (sym (given_at given trees i t e got) ∙ there) in
      let here : slice_get (ready ++ made ∷ []) i ≡ Some made = ap (slice_get (ready ++ made ∷ [])) (sym h.long) ∙ get_last ready made in
      subst (IsReadyAt p.pair.uri t) (sym here) (subst (λ (z : List ℕ). IsReady z t made) (uri_is p at) (is t same))

  pub ready_more : Ready pairs trees ready i → slice_get trees i ≡ Some tree → ((p : PairAt) → slice_get pairs i ≡ Some p → uri ≡ p.pair.uri)
      → ((t : Option Node) → option_map pre t ≡ tree → IsReady uri t made) → (new : List (Option (List Token))) → new ≡ ready ++ made ∷ [] → Ready pairs trees new (i + 1)
  ready_more h there uri_is is new new_is = record {
    long = ap (λ (z : List (Option (List Token))). length z) new_is ∙ (let low = h.long in omega (arith, length-append ready (made ∷ [])));
    each = λ given e k p t low at got. subst (λ (z : List (Option (List Token))). IsReadyAt p.pair.uri t (slice_get z k)) (sym new_is) (elim (earlier k i low) [
      | inl less ↦ ready_before p.pair.uri t ready made k (h.each given e k p t less at got)
      | inr same ↦ subst (λ (z : ℕ). IsReadyAt p.pair.uri t (slice_get (ready ++ made ∷ []) z)) (sym same)
          (last_ready h there uri_is is given e p t (ap (slice_get pairs) (sym same) ∙ at) (ap (slice_get given) (sym same) ∙ got))
    ]);
  }

pub all_ready : (pairs : List PairAt) (trees ready : List (Option (List Token))) (i : ℕ) → Ready pairs trees ready i → length trees ≤ i → length trees ≡ length pairs → AreReady pairs trees ready
all_ready pairs trees ready i h over long = record { long = long; each = λ given e k p t low at got. h.each given e k p t (omega arith) at got }

-- ---- the last token first

pub last_first_is : (prefix xs : List Token) (x : Token) → last_first prefix (xs ++ x ∷ []) ≡ x ∷ (prefix ++ xs)
last_first_is prefix [] x = ap (λ (z : List Token). x ∷ z) (sym (append-nil prefix))
last_first_is prefix (y ∷ []) x = refl
last_first_is prefix (y ∷ z ∷ xs) x = last_first_is (prefix ++ y ∷ []) (z ∷ xs) x ∙ ap (λ (w : List Token). x ∷ w) (append_assoc prefix (y ∷ []) (z ∷ xs))

pub turned_after : (b : Bool) (xs prefix : List Token) (x : Token) → b ≡ true → xs ≡ prefix ++ x ∷ [] → x ∷ prefix ≡ turned b xs
turned_after b xs prefix x h is = sym (ap (λ (z : Bool). turned z xs) h ∙ ap (last_first []) is ∙ last_first_is [] prefix x)

-- ---- what is put for a token

put_as_ready : (b : Bool) (x : Token) (uri : List ℕ) (t : Option Node) (r : Option (List Token)) → x ≡ token.Attestation (attestation.Pending uri) → IsReady uri t r → put_ready b x r ≡ put b x t
put_as_ready b x uri None None e h = refl
put_as_ready b x uri None (Some ts) e h = absurd h
put_as_ready b x uri (Some t) None e h = absurd h
put_as_ready false x uri (Some t) (Some ts) e h = h ∙ ap (λ (z : Token). forked t ++ z ∷ []) (sym e)
put_as_ready true x uri (Some t) (Some ts) e h =
    ap (last_first []) h ∙ last_first_is [] (forked t) (token.Attestation (attestation.Pending uri)) ∙ ap (λ (z : Token). z ∷ forked t) (sym e)

ready_or_not : (b : Bool) (x : Token) (uri : List ℕ) (t : Option Node) (r : Option (Option (List Token))) → x ≡ token.Attestation (attestation.Pending uri) → IsReadyAt uri t r
    → put_ready b x (option_and_then (λ z. z) r) ≡ put b x t
ready_or_not b x uri t None e h = absurd h
ready_or_not b x uri t (Some r) e h = put_as_ready b x uri t r e h

pub given_long : (given : List (Option Node)) (trees : List (Option (List Token))) → map (option_map pre) given ≡ trees → length given ≡ length trees
given_long given trees e = sym (length-map given (option_map pre)) ∙ ap (λ (z : List (Option (List Token))). length z) e

pub put_of_ready : (pairs : List PairAt) (trees ready : List (Option (List Token))) (given : List (Option Node)) → AreReady pairs trees ready → map (option_map pre) given ≡ trees
    → ArePut pairs given ready
put_of_ready pairs trees ready given all e = record { long = given_long given trees e ∙ all.long; each = all.each given e }

put_for : (pairs : List PairAt) (given : List (Option Node)) (ready : List (Option (List Token))) (b : Bool) (x : Token) (depth : ℕ) (messages : List (List ℕ)) (place : Option ℕ)
    → ArePut pairs given ready → IsPairOf pairs x depth messages place → put_ready b x (tree_at ready place) ≡ put b x (answer_at pairs given x depth messages)
put_for pairs given ready b x depth messages None all is = ap (put b x) (sym (is given))
put_for pairs given ready b x depth messages (Some i) all is =
    let low : i < length pairs = in_range pairs is.pair i is.place in
    let h = all.each i is.pair (answer_at pairs given x depth messages) low is.place (is.answer given all.long) in
    ready_or_not b x is.pair.pair.uri (answer_at pairs given x depth messages) (slice_get ready i) is.pending h

-- what is put, in a window or outside it
pub record Puts (pairs : List PairAt) (given : List (Option Node)) (b : Bool) (x : Token) (depth : ℕ) (messages : List (List ℕ)) (goes_on : Bool) (tree : Option (List Token)) : Type 0 where
  pub node : Option Node
  pub may : MayBe (answer_at pairs given x depth messages) node
  pub must : goes_on ≡ true → node ≡ answer_at pairs given x depth messages
  pub is : put_ready b x tree ≡ put b x node

none_put : (b : Bool) (x : Token) → put_ready b x None ≡ put b x None
none_put false x = refl
none_put true x = refl

pub puts : (pairs : List PairAt) (given : List (Option Node)) (ready : List (Option (List Token))) (b : Bool) (x : Token) (depth : ℕ) (messages : List (List ℕ)) (goes_on : Bool) (tree : Option (List Token))
    → ArePut pairs given ready → IsPutFor pairs ready x depth messages goes_on tree → Puts pairs given b x depth messages goes_on tree
puts pairs given ready b x depth messages true tree all h = record {
  node = answer_at pairs given x depth messages;
  may = inr refl;
  must = λ is. refl;
  is = ap (put_ready b x) h.tree_is ∙ put_for pairs given ready b x depth messages h.place all h.is;
}
puts pairs given ready b x depth messages false tree all h = record { node = None; may = inl refl; must = λ is. absurd cc; is = ap (put_ready b x) h ∙ none_put b x }

-- ---- the loop

-- whatever the tokens that are left become stands after what is made
pub part_goes : (pairs : List PairAt) (given : List (Option Node)) (Must : ℕ → Type 0) (total : ℕ) (tokens : List Token) (depths : List ℕ) (i n more_n : ℕ) (b after : Bool) (x : Token) (messages next : List (List ℕ))
    (goes_on : Bool) (tree : Option (List Token)) (made more_made : List Token) (All : List Token → Type 0)
    → after ≡ is_fork x → length depths ≡ length tokens → i < length tokens → x ≡ get_or tokens i x
    → (p : Puts pairs given b x (get_or depths i 0) messages goes_on tree) → (Must n → p.node ≡ answer_at pairs given x (get_or depths i 0) messages)
    → more_made ≡ made ++ put_ready b x tree → next ≡ followed x (get_or depths i 0) messages → more_n ≡ ended x n
    → ((others : List Token) → GrowsInPart pairs given Must total b n messages (drop i (beside tokens depths)) others → All (made ++ others))
    → (others : List Token) → GrowsInPart pairs given Must total after more_n next (drop (i + 1) (beside tokens depths)) others → All (more_made ++ others)
part_goes pairs given Must total tokens depths i n more_n b after x messages next goes_on tree made more_made All after_is same in_range is puts must put_is moved counted walk others h =
    let d = get_or depths i 0 in
    let rest = drop (i + 1) (beside tokens depths) in
    let here : GrowsInPart pairs given Must total (is_fork x) (ended x n) (followed x d messages) rest others =
    subst (λ (z : List (List ℕ)). GrowsInPart pairs given Must total (is_fork x) (ended x n) z rest others) moved
    (subst (λ (z : ℕ). GrowsInPart pairs given Must total (is_fork x) z next rest others) counted
    (subst (λ (z : Bool). GrowsInPart pairs given Must total z more_n next rest others) after_is h)) in
    let one : GrowsInPart pairs given Must total b n messages (record { token = x; depth = d } ∷ rest) (put b x puts.node ++ others) =
    record { tree = puts.node; others = others; may = puts.may; must = must; are = refl; follow = here } in
    let all = walk (put b x puts.node ++ others)
    (subst (λ (z : List TokenAt). GrowsInPart pairs given Must total b n messages z (put b x puts.node ++ others)) (sym (beside_at tokens depths i x same in_range is)) one) in
    subst All (sym (ap (λ (z : List Token). z ++ others) put_is ∙ append_assoc made (put_ready b x tree) others ∙ ap (λ (z : List Token). made ++ (z ++ others)) puts.is)) all

pub part_ends : (pairs : List PairAt) (given : List (Option Node)) (Must : ℕ → Type 0) (tokens : List Token) (depths : List ℕ) (i n : ℕ) (b : Bool) (messages : List (List ℕ)) (made : List Token)
    (All : List Token → Type 0) → length depths ≡ length tokens → length tokens ≤ i
    → ((others : List Token) → GrowsInPart pairs given Must n b n messages (drop i (beside tokens depths)) others → All (made ++ others)) → All made
part_ends pairs given Must tokens depths i n b messages made All same over walk =
    let none : drop i (beside tokens depths) ≡ [] = drop_all i (beside tokens depths) (omega (arith, length-beside tokens depths same)) in
    subst All (append-nil made) (walk [] (subst (λ (z : List TokenAt). GrowsInPart pairs given Must n b n messages z []) (sym none) (refl, refl)))
