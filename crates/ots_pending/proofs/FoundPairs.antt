-- The place of the pair that a token asks for.
use Rattle.std.proofs.Common.{◌≡◌, ℕ, zero, suc, ◌<◌, ◌^◌, inl, Bool, true, false, cond, List, [], ◌∷◌, length, Option, Some, None, refl, sym, ap, ◌∙◌, arith}
use Rattle.std.specs.Prelude.{option_map}
use Rattle.std.specs.List.{slice_get}
use Rattle.ots_attest.specs.declared.attestation.Attestation.TheVariants as attestation
use Rattle.ots_tree.specs.declared.token.Token.{Token}
use Rattle.ots_tree.specs.declared.token.Token.TheVariants as token
use Rattle.ots_tree.specs.Wire.{Node}
use Rattle.ots_pending.specs.declared.listing.Listing.{Listing}
use Rattle.ots_pending.specs.declared.path.Path.{Path}
use Rattle.ots_pending.specs.Distinct.{AreDistinct, IsPlaceOf}
use Rattle.ots_pending.specs.Pairs.{Pair, PairAt, is_same}
use Rattle.ots_pending.specs.Completed.{tree_for, answer_to}
use Rattle.ots_pending.specs.Listed.{key, key_of, pair_in, pairs_in, IsKept}
use Rattle.ots_pending.specs.OnPath.{HasNumber, AreNumbers, kept_at}
use Rattle.ots_pending.specs.Grown.{answer_at, IsPairOf, IsKnownAt, KeepsPath}
use Rattle.ots_pending.proofs.Maps.{in_range}
use Rattle.ots_pending.proofs.Lists.{some_same, none_some, get_map, get_mapped, get_of_or}
use Rattle.ots_pending.proofs.Raising.{same_of, same_key, key_at, key_same, key_numbers}
use Rattle.ots_pending.proofs.Walking.{numbered}

pub keeps_noted : (all : List (List ℕ)) (old new : Path) (depth n : ℕ) (m : List ℕ) → AreDistinct all → AreNumbers all old → slice_get all n ≡ Some m → slice_get old.messages depth ≡ Some m
    → new.messages ≡ old.messages → new.numbers.items ≡ kept_at old.numbers.items depth n → KeepsPath all old new
keeps_noted all old new depth n m distinct numbers there here same kept =
    let h = numbered all all old new depth m n numbers (record { place = there; grown = inl (in_range all m n there, refl) }) distinct here same kept in
    record { same = same; numbers = h.numbers }

-- ---- the tree for a pair

differ : (b : Bool) → (b ≡ true → ⊥) → b ≡ false
differ true h = absurd (h refl)
differ false h = refl

chosen : (b : Bool) (t u : Option Node) → b ≡ true → cond b t u ≡ t
chosen true t u h = refl
chosen false t u h = absurd cc

other : (b : Bool) (t u : Option Node) → b ≡ false → cond b t u ≡ u
other true t u h = absurd cc
other false t u h = refl

tree_nowhere : (p : Pair) (qs : List PairAt) (given : List (Option Node)) → ((j : ℕ) (q : PairAt) → slice_get qs j ≡ Some q → is_same p q.pair ≡ true → ⊥) → tree_for p qs given ≡ None
tree_nowhere p [] given none = refl
tree_nowhere p (q ∷ qs) [] none = refl
tree_nowhere p (q ∷ qs) (t ∷ given) none =
    other (is_same p q.pair) t (tree_for p qs given) (differ (is_same p q.pair) (none 0 q refl)) ∙ tree_nowhere p qs given (λ j r h. none (suc j) r h)

tree_there : (p : Pair) (qs : List PairAt) (given : List (Option Node)) (i : ℕ) (q : PairAt) → slice_get qs i ≡ Some q → is_same p q.pair ≡ true
    → ((j : ℕ) (r : PairAt) → slice_get qs j ≡ Some r → is_same p r.pair ≡ true → j ≡ i) → length given ≡ length qs → slice_get given i ≡ Some (tree_for p qs given)
tree_there p [] given i q h same only long = absurd (none_some q h)
tree_there p (r ∷ qs) [] i q h same only long = absurd (omega arith)
tree_there p (r ∷ qs) (t ∷ given) zero q h same only long =
    ap (λ (z : Option Node). Some z) (sym (chosen (is_same p r.pair) t (tree_for p qs given) (ap (λ (z : PairAt). is_same p z.pair) (some_same r q h) ∙ same)))
tree_there p (r ∷ qs) (t ∷ given) (suc i) q h same only long =
    let apart : is_same p r.pair ≡ false = differ (is_same p r.pair) (λ e. let no : 0 ≡ suc i = only 0 r refl e in omega arith) in
    tree_there p qs given i q h same (λ j s k e. let more : suc j ≡ suc i = only (suc j) s k e in omega arith) (omega arith)
    ∙ ap (λ (z : Option Node). Some z) (sym (other (is_same p r.pair) t (tree_for p qs given) apart))

-- ---- the pair of a token

module _ (l : Listing) (kept : IsKept l) (x : Token) (uri : List ℕ) (depth : ℕ) (path : List (List ℕ)) (pending : x ≡ token.Attestation (attestation.Pending uri)) where
  answer_is : (given : List (Option Node)) (m : Option (List ℕ)) → slice_get path depth ≡ m
      → answer_at (pairs_in l) given x depth path ≡ answer_to (pairs_in l) given (attestation.Pending uri) m
  answer_is given m h = ap (λ (z : Token). answer_at (pairs_in l) given z depth path) pending ∙ ap (answer_to (pairs_in l) given (attestation.Pending uri)) h

  no_message : (m : List ℕ) → ((i : ℕ) → slice_get l.messages i ≡ Some m → ⊥)
      → (j : ℕ) (q : PairAt) → slice_get (pairs_in l) j ≡ Some q → is_same (record { uri = uri; message = m }) q.pair ≡ true → ⊥
  no_message m none j q h e =
      let a = get_mapped (pair_in l.messages) l.asked.items j q h in
      let same = same_of (record { uri = uri; message = m }) (pair_in l.messages a.0).pair (ap (λ (z : PairAt). is_same (record { uri = uri; message = m }) z.pair) a.2 ∙ e) in
      none a.0.message (get_of_or l.messages a.0.message [] (kept.in_range j a.0 a.1) ∙ ap Some (sym same.message))

  by_message : (given : List (Option Node)) (m : Option (List ℕ)) → slice_get path depth ≡ m → IsKnownAt l.messages path depth None → answer_to (pairs_in l) given (attestation.Pending uri) m ≡ None
  by_message given None h unknown = refl
  by_message given (Some m) h unknown = tree_nowhere (record { uri = uri; message = m }) (pairs_in l) given (no_message m (unknown m h))

  pub unknown_pair : IsKnownAt l.messages path depth None → IsPairOf (pairs_in l) x depth path None
  unknown_pair unknown given = answer_is given (slice_get path depth) refl ∙ by_message given (slice_get path depth) refl unknown

  module _ (number : ℕ) (fits : number < 2 ^ 64) (known : HasNumber l.messages path depth number) where
    abbrev m : List ℕ
    m = known.message

    abbrev wanted : Pair
    wanted = record { uri = uri; message = m }

    -- a pair that is the same has the key
    keyed : (j : ℕ) (q : PairAt) → slice_get (pairs_in l) j ≡ Some q → is_same wanted q.pair ≡ true → slice_get l.keys j ≡ Some (key_of number uri)
    keyed j q h e =
        let a = get_mapped (pair_in l.messages) l.asked.items j q h in
        key_at l kept uri number m 0 known.there fits j a.0 a.1
        ∙ ap Some (same_key l kept uri number m 0 known.there fits j a.0 a.1 (ap (λ (z : PairAt). is_same wanted z.pair) a.2 ∙ e))

    pub found_pair : (place : Option ℕ) → IsPlaceOf l.keys (key_of number uri) place → IsPairOf (pairs_in l) x depth path place
    found_pair None none = λ given.
        answer_is given (Some m) known.here ∙ tree_nowhere wanted (pairs_in l) given (λ j q h e. none j (keyed j q h e))
    found_pair (Some i) at =
        let a = get_mapped key l.asked.items i (key_of number uri) (ap (λ (z : List (List ℕ)). slice_get z i) (sym kept.keys_are) ∙ at) in
        let here : slice_get (pairs_in l) i ≡ Some (pair_in l.messages a.0) = get_map (pair_in l.messages) l.asked.items i ∙ ap (option_map (pair_in l.messages)) a.1 in
        let k = key_numbers a.0.message number a.0.uri uri (kept.fits i a.0 a.1) fits a.2 in
        record {
          pair = pair_in l.messages a.0;
          place = here;
          pending = pending ∙ ap (λ (z : List ℕ). token.Attestation (attestation.Pending z)) (sym k.1);
          answer = λ given long.
              tree_there wanted (pairs_in l) given i (pair_in l.messages a.0) here (key_same l kept uri number m 0 known.there fits a.0 i a.1 a.2)
              (λ j q h e. kept.keys j i (key_of number uri) (keyed j q h e) at) long
              ∙ ap (λ (z : Option Node). Some z) (sym (answer_is given (Some m) known.here));
        }
