-- Bytes have one fault, or begin with one sound tree.
use Rattle.std.specs.Prelude.{◌≡◌, ℕ, ◌≤◌, List, ◌++◌}
use Rattle.ots_base.specs.declared.limits.TheConstants.{MAX_MESSAGE, MAX_OPERATIONS}
use Rattle.ots_tree.specs.Wire.{Node, bytes}
use Rattle.ots_reader.specs.declared.fault.Fault.{Fault}
use Rattle.ots_reader.specs.declared.fault.Reason.{Reason}
use Rattle.ots_reader.specs.declared.fault.Reason.TheVariants.{BadMagic, BadVersion, BadHashOp, TrailingBytes}
use Rattle.ots_reader.specs.TreeFault.{HasTreeFault}
use Rattle.ots_reader.specs.TreeRead.{IsSoundNode}

-- the bytes have this fault and no other
pub record HasOneFault (n k : ℕ) (input : List ℕ) : Type 0 where
  pub fault : Fault
  pub has : HasTreeFault n k input fault
  pub only : (g : Fault) → HasTreeFault n k input g → g ≡ fault

-- the bytes begin with this sound tree and no other
pub record HasOneTree (n k : ℕ) (input : List ℕ) : Type 0 where
  pub node : Node
  pub rest : List ℕ
  pub sound : IsSoundNode n k node
  pub spelled : input ≡ bytes node ++ rest
  pub only : (u : Node) (others : List ℕ) → IsSoundNode n k u → input ≡ bytes u ++ others → u ≡ node

-- the length of a message and the number of operations before it, as a proof may have them
pub record IsShape (n k : ℕ) : Type 0 where
  pub least : 1 ≤ n
  pub greatest : n ≤ MAX_MESSAGE
  pub depth : k ≤ MAX_OPERATIONS

-- A reason that a tree can have: none of a file's header, and not that bytes follow the tree.
abbrev pub IsTreeReason : Reason → Type 0
IsTreeReason BadMagic = ⊥
IsTreeReason BadVersion = ⊥
IsTreeReason BadHashOp = ⊥
IsTreeReason TrailingBytes = ⊥
IsTreeReason r = Unit {0}
