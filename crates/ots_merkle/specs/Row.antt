-- The row of level hashes, by which the code adds up a calendar's tree leaf by leaf. It serves the code
-- alone: what the roots are is said by CalendarTree. At place h stands the root of 2 ^ h leaves, or
-- nothing, as in a number in base two; those of the higher places come first in the list of leaves.
use Rattle.std.specs.Prelude.{ℕ, List, [], ◌∷◌, ◌++◌, Option, Some, None, if◌then◌else◌}
use Rattle.std.specs.List.{list_any}
use Rattle.std.specs.Option.{is_none}
use Rattle.ots_merkle.specs.Hashes.{node}

-- The row with one hash more at its first place, where the hash of a taken place is carried on to the
-- next, as one adds 1 to a number.
abbrev pub added : List (Option (List ℕ)) → List ℕ → List (Option (List ℕ))
added [] hash = Some hash ∷ []
added (None ∷ row) hash = Some hash ∷ row
added (Some before ∷ row) hash = None ∷ added row (node before hash)

-- The row with a free place, which is after the others where none of them is free.
abbrev pub with_room : List (Option (List ℕ)) → List (Option (List ℕ))
with_room row = if list_any is_none row then row else row ++ None ∷ []

-- The row with these leaves added in order.
abbrev pub all_added : List (Option (List ℕ)) → List (List ℕ) → List (Option (List ℕ))
all_added row [] = row
all_added row (leaf ∷ leaves) = all_added (added row leaf) leaves

-- The hash over all that stands in the row and after it, where anything does.
abbrev pub folded : List (Option (List ℕ)) → Option (List ℕ) → Option (List ℕ)
folded [] after = after
folded (None ∷ row) after = folded row after
folded (Some before ∷ row) None = folded row (Some before)
folded (Some before ∷ row) (Some after) = folded row (Some (node before after))
