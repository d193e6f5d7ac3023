-- Pairs, each with what came of asking for it.
use Rattle.std.proofs.Common.{◌≡◌, ℕ, zero, suc, List, [], ◌∷◌, ◌++◌, length, map, Option, Some, refl, sym, ap, ◌∙◌, arith}
use Rattle.std.specs.List.{slice_get}
use Rattle.ots_asking.specs.declared.outcome.Outcome.{Outcome}
use Rattle.ots_pending.specs.Pairs.{PairAt}
use Rattle.ots_upgrade.specs.AskedList.{asked_at, asked_with}
use Rattle.ots_upgrade.specs.Upgrading.{tree_of, trees_of}
use Rattle.ots_upgrade.specs.declared.asking.AskedAt.{AskedAt}

asked_length : (pairs : List PairAt) (outcomes : List (Option Outcome)) → length outcomes ≡ length pairs → length (asked_with pairs outcomes) ≡ length pairs
asked_length [] outcomes same = refl
asked_length (p ∷ pairs) [] same = absurd (omega arith)
asked_length (p ∷ pairs) (o ∷ outcomes) same = ap suc (asked_length pairs outcomes (omega arith))

-- their trees are those of what came of it
pub trees_same : (pairs : List PairAt) (outcomes : List (Option Outcome)) → length outcomes ≡ length pairs → trees_of (asked_with pairs outcomes) ≡ map tree_of outcomes
trees_same [] [] same = refl
trees_same [] (o ∷ outcomes) same = absurd (omega arith)
trees_same (p ∷ pairs) [] same = absurd (omega arith)
trees_same (p ∷ pairs) (o ∷ outcomes) same = ap (λ trees. tree_of o ∷ trees) (trees_same pairs outcomes (omega arith))

pub asked_append : (pairs more : List PairAt) (outcomes others : List (Option Outcome)) → length outcomes ≡ length pairs
    → asked_with (pairs ++ more) (outcomes ++ others) ≡ asked_with pairs outcomes ++ asked_with more others
asked_append [] more [] others same = refl
asked_append [] more (o ∷ outcomes) others same = absurd (omega arith)
asked_append (p ∷ pairs) more [] others same = absurd (omega arith)
asked_append (p ∷ pairs) more (o ∷ outcomes) others same = ap (λ asked. asked_at (p, o) ∷ asked) (asked_append pairs more outcomes others (omega arith))

-- The element at a place is the pair there with what came of asking for it.
pub record IsAskedThere (pairs : List PairAt) (outcomes : List (Option Outcome)) (i : ℕ) (a : AskedAt) : Type 0 where
  pub pair : PairAt
  pub pair_there : slice_get pairs i ≡ Some pair
  pub outcome : Option Outcome
  pub outcome_there : slice_get outcomes i ≡ Some outcome
  pub is : asked_at (pair, outcome) ≡ a

there : (pairs : List PairAt) (outcomes : List (Option Outcome)) (i : ℕ) (a : AskedAt) → slice_get (asked_with pairs outcomes) i ≡ Some a → IsAskedThere pairs outcomes i a
there [] outcomes i a at = absurd cc
there (p ∷ pairs) [] i a at = absurd cc
there (p ∷ pairs) (o ∷ outcomes) zero a at = record { pair = p; pair_there = refl; outcome = o; outcome_there = refl; is = cc }
there (p ∷ pairs) (o ∷ outcomes) (suc i) a at =
    let rest = there pairs outcomes i a at in
    record { pair = rest.pair; pair_there = rest.pair_there; outcome = rest.outcome; outcome_there = rest.outcome_there; is = rest.is }

pub asked_there : (pairs : List PairAt) (outcomes : List (Option Outcome)) (asked : List AskedAt) → asked_with pairs outcomes ≡ asked → (i : ℕ) (a : AskedAt) → slice_get asked i ≡ Some a
    → IsAskedThere pairs outcomes i a
asked_there pairs outcomes asked are i a at = there pairs outcomes i a (ap (λ (z : List AskedAt). slice_get z i) are ∙ at)

pub asked_count : (pairs : List PairAt) (outcomes : List (Option Outcome)) (asked : List AskedAt) → asked_with pairs outcomes ≡ asked → length outcomes ≡ length pairs → length asked ≡ length pairs
asked_count pairs outcomes asked are same = ap length (sym are) ∙ asked_length pairs outcomes same
