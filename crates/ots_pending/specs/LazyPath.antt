-- How the messages on the path of a walk are made, each when it is asked for: for the code.
use Rattle.std.specs.Prelude.{◌≡◌, ◌≤◌, ℕ, zero, suc, ◌-◌, List, [], ◌∷◌, map, length, Option, None, Some}
use Rattle.std.specs.Prelude.{option_and_then}
use Rattle.std.specs.Borrow.{Bor}
use Rattle.std.specs.List.{slice_get}
use Rattle.ots_ops.specs.Apply.{apply}
use Rattle.ots_ops.specs.declared.op.Op.{Op}

-- the operations behind references
abbrev pub ops_of : List (Bor Op) → List Op
ops_of refs = map (λ o. o.now) refs

-- a message and what operations make of it, one after the other, up to the first that has no result
abbrev pub results : Option (List ℕ) → List Op → List (List ℕ)
results None os = []
results (Some m) [] = m ∷ []
results (Some m) (o ∷ os) = m ∷ results (apply o m) os

-- the messages on the path: the first that was made, and what the operations make of it
abbrev pub all_made : List (List ℕ) → List (Bor Op) → List (List ℕ)
all_made made refs = results (slice_get made 0) (ops_of refs)

-- The messages that were made are the first ones on the path, the root's among them.
pub record IsMade (made : List (List ℕ)) (refs : List (Bor Op)) : Type 0 where
  pub root : 1 ≤ length made
  pub front : (i : ℕ) (m : List ℕ) → slice_get made i ≡ Some m → slice_get (all_made made refs) i ≡ Some m

-- what the first operation that was not applied makes of the last message
abbrev pub next_made : List (List ℕ) → List Op → Option (List ℕ)
next_made made os =
    option_and_then (λ o. option_and_then (apply o) (slice_get made (length made - 1))) (slice_get os (length made - 1))

-- the operations before a depth, and then this one where there are so many
abbrev pub with_op : Op → ℕ → List Op → List Op
with_op o zero os = o ∷ []
with_op o (suc d) [] = []
with_op o (suc d) (p ∷ ps) = p ∷ with_op o d ps
