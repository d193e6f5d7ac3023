-- What reading a tree answers.
use Rattle.std.specs.Prelude.{◌≡◌, ℕ, List, ◌++◌, length, drop}
use Rattle.std.specs.List.{AllByRecursion}
use Rattle.ots_tree.specs.declared.tree.Tree.{Tree}
use Rattle.ots_tree.specs.Wire.{Node, pre, spelled, IsToken}
use Rattle.ots_tree.specs.Sound.{IsSound, IsSoundPre}
use Rattle.ots_reader.specs.declared.fault.ReadError.{ReadError}
use Rattle.ots_reader.specs.declared.fault.ReadError.TheVariants as error
use Rattle.ots_reader.specs.TreeFault.{HasTreeFault}

-- The first `used` bytes spell this tree, which is sound below a message of n bytes and k operations.
pub record IsTreeAt (n k : ℕ) (input : List ℕ) (tree : Tree) (used : ℕ) : Type 0 where
  pub sound : IsSoundPre n k tree
  pub fits : AllByRecursion IsToken tree
  pub front : input ≡ spelled tree ++ drop used input
  pub len : used ≡ length (spelled tree)

-- The error is the fault of the bytes, unless memory ran out.
abbrev pub IsTreeError : ℕ → ℕ → List ℕ → ReadError → Type 0
IsTreeError n k input (error.Fault f) = HasTreeFault n k input f
IsTreeError n k input error.OutOfMemory = Unit {0}

-- a node that is sound there, its tokens being within their limits
pub record IsSoundNode (n k : ℕ) (t : Node) : Type 0 where
  pub sound : IsSound n k t
  pub fits : AllByRecursion IsToken (pre t)
