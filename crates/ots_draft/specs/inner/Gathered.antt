-- For what gathers trees in one: what is gathered so far.
use Rattle.std.specs.Prelude.{◌≡◌, ◌≤◌, ℕ, List, [], length, Option, None, Some}
use Rattle.ots_canon.specs.Canonical.{IsCanonTree}
use Rattle.ots_canon.specs.Order.{Has}
use Rattle.ots_draft.specs.declared.gathering.Gathered.{Gathered}
use Rattle.ots_draft.specs.inner.Gathering.{HasAll}
use Rattle.ots_tree.specs.Wire.{Node, Path, paths, spelled}
use Rattle.ots_tree.specs.declared.token.Token.{Token}

-- The paths of all these nodes are gathered; and the canonical tree of any list that has them is spelled in no fewer
-- bytes than the least.
pub record IsGathered (nodes : List Node) (g : Gathered) : Type 0 where
  pub all : HasAll nodes g.tree
  pub low : (ps : List Path) (whole : List Token) → ((p : Path) → Has (paths all.node) p → Has ps p)
      → IsCanonTree ps whole → g.least ≤ length (spelled whole)

-- No node, or what is gathered of some.
abbrev pub IsGatheredAny : List Node → Option Gathered → Type 0
IsGatheredAny nodes None = nodes ≡ []
IsGatheredAny nodes (Some g) = IsGathered nodes g
