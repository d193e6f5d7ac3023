-- What calendars answer a round, for the code.
use Rattle.std.specs.Prelude.{◌≡◌, ◌≤◌, ◌<◌, ℕ, ◌+◌, ◌-◌, ◌*◌, ◌/◌, List, length, Option, None, Some}
use Rattle.ots_base.specs.declared.limits.TheConstants.{MAX_REPLY_BODY}
use Rattle.ots_tree.specs.Wire.{Node, pre, spelled}
use Rattle.ots_gateway.specs.Round.{Given, too_few, below, tree_from}
use Rattle.ots_gateway.specs.declared.answer.Answer.{Answer}

-- how many bytes a way of so many operations has
abbrev pub way_bytes : ℕ → ℕ
way_bytes depth = 19 + 35 * (depth - 2) / 2

-- The tree of each digest fits a reply.
abbrev pub Fit : List (List ℕ) → Node → Type 0
Fit over node = (i : ℕ) (nonce : List ℕ) → i < length over → length nonce ≡ 16
    → length (spelled (tree_from over node i nonce)) ≤ MAX_REPLY_BODY

-- What is kept is a tree below so many ways, which fits.
abbrev pub Keeps : ℕ → Answer → Type 0
Keeps count a = (count ≤ length a.ways) × ((node : Node) × (pre node ≡ a.tree) × Fit a.ways node)

-- What is kept of what a round gives to its digests.
abbrev pub IsAnswer : Given → Option Answer → Type 0
IsAnswer too_few None = Unit {0}
IsAnswer too_few (Some a) = ⊥
IsAnswer (below over node) None = ⊥
IsAnswer (below over node) (Some a) = (a.ways ≡ over) × (pre node ≡ a.tree) × Fit over node
