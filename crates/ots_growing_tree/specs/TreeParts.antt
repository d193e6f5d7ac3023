-- What a growing tree keeps: the leaves after the last whole run, the roots of the whole runs, and above them levels,
-- each with the roots of the whole groups of the level below.
use Rattle.std.specs.Prelude.{◌≡◌, ℕ, ◌*◌, ◌^◌, ◌/◌, ◌<◌, ◌≤◌, List, [], ◌∷◌, length, take, drop, Vec, vec_capacity}
use Rattle.std.specs.declared.alloc.Global.{Global}
use Rattle.ots_growing_tree.specs.Runs.{whole_roots}
use Rattle.ots_growing_tree.specs.declared.growing.Parts.{Parts}
use Rattle.ots_growing_tree.specs.declared.growing.TheConstants.{GROUP, LEVELS, RUN}

-- the nodes after the last whole run of `size` nodes
abbrev pub rest_of : ℕ → List (List ℕ) → List (List ℕ)
rest_of size nodes = drop (size * (length nodes / size)) nodes

-- Each level has the roots of the whole groups of the one below it, and the last level is less than a group.
unfoldable pub AreAbove : List (Vec (List ℕ) Global) → List (List ℕ) → Type 0
AreAbove [] below = length below < GROUP
AreAbove (level ∷ levels) below = (level.items ≡ whole_roots GROUP below) × AreAbove levels level.items

-- Where these nodes are the first ones of a level: each level above begins with the roots of their whole groups, and
-- so on up, and the last level is less than a group.
unfoldable pub BeginAbove : List (Vec (List ℕ) Global) → List (List ℕ) → Type 0
BeginAbove [] below = length below < GROUP
BeginAbove (level ∷ levels) below = (length below / GROUP ≤ length level.items)
    × (take (length below / GROUP) level.items ≡ whole_roots GROUP below)
    × BeginAbove levels (take (length below / GROUP) level.items)

-- The levels have room for what stands above `total` nodes.
unfoldable pub HasRoom : List (Vec (List ℕ) Global) → ℕ → Type 0
HasRoom [] total = total < GROUP
HasRoom (level ∷ levels) total = (total / GROUP ≤ vec_capacity level) × HasRoom levels (total / GROUP)

-- The levels have the nodes that they had, and no less room.
unfoldable pub AreKept : List (Vec (List ℕ) Global) → List (Vec (List ℕ) Global) → Type 0
AreKept [] [] = Unit {0}
AreKept [] (new ∷ news) = ⊥
AreKept (old ∷ olds) [] = ⊥
AreKept (old ∷ olds) (new ∷ news) = (new.items ≡ old.items) × (vec_capacity old ≤ vec_capacity new) × AreKept olds news

-- The parts of a tree of these leaves, with room for `total` leaves.
pub record IsOf (leaves : List (List ℕ)) (total : ℕ) (p : Parts) : Type 0 where
  pub few : length leaves ≤ total
  pub limit : total < 2 ^ 32
  pub tail : p.tail.items ≡ rest_of RUN leaves
  pub runs : p.runs.items ≡ whole_roots RUN leaves
  pub above : AreAbove p.above.items p.runs.items
  pub levels : length p.above.items ≡ LEVELS
  pub tail_room : RUN ≤ vec_capacity p.tail
  pub runs_room : total / RUN ≤ vec_capacity p.runs
  pub room : HasRoom p.above.items (total / RUN)
