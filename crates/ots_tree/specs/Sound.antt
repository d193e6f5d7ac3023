-- Which trees are sound for a message of some length, below some operations: path by path, by
-- lengths alone. At most 255 operations are on a path (python-opentimestamps,
-- opentimestamps/core/timestamp.py, Timestamp.deserialize, whose limit of 256 counts messages).
use Rattle.std.specs.Prelude.{◌≡◌, ℕ, ◌+◌, ◌≤◌, List, [], ◌∷◌, length, Option, Some, IsSome, option_and_then}
use Rattle.std.specs.List.{AllByRecursion}
use Rattle.ots_base.specs.declared.limits.TheConstants.{MAX_OPERATIONS}
use Rattle.ots_ops.specs.declared.op.Op.{Op}
use Rattle.ots_ops.specs.ResultLength.{len}
use Rattle.ots_tree.specs.Wire.{Node, Path, paths, pre}
use Rattle.ots_tree.specs.declared.token.Token.{Token}

-- the length after these operations, where each of them has a result
abbrev pub length_after : List Op → ℕ → Option ℕ
length_after [] n = Some n
length_after (o ∷ ops) n = option_and_then (length_after ops) (len o n)

-- below k operations, from a message of n bytes
pub record IsSoundPath (n k : ℕ) (p : Path) : Type 0 where
  pub short : length p.ops + k ≤ MAX_OPERATIONS
  pub has_result : IsSome (length_after p.ops n)

abbrev pub IsSound : ℕ → ℕ → Node → Type 0
IsSound n k t = AllByRecursion (IsSoundPath n k) (paths t)

-- the tokens of a sound tree
abbrev pub IsSoundPre : ℕ → ℕ → List Token → Type 0
IsSoundPre n k ts = (t : Node) × IsSound n k t × (pre t ≡ ts)
