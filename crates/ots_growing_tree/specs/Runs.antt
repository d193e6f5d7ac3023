-- The roots of runs of leaves: the leaves of a tree above them.
use Rattle.std.specs.Prelude.{ℕ, zero, suc, ◌/◌, List, [], ◌∷◌, length, take, drop}
use Rattle.ots_merkle.specs.CalendarTree.{root}

-- the roots of the first n runs of `size` leaves each
unfoldable pub run_roots : ℕ → ℕ → List (List ℕ) → List (List ℕ)
run_roots size zero leaves = []
run_roots size (suc n) leaves = root (take size leaves) ∷ run_roots size n (drop size leaves)

-- the roots of all whole runs
abbrev pub whole_roots : ℕ → List (List ℕ) → List (List ℕ)
whole_roots size leaves = run_roots size (length leaves / size) leaves
