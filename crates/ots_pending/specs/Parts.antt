-- What has been made of a completed tree: for the code. What comes of it is said by IsCompleted.
use Rattle.std.specs.Prelude.{◌≡◌, ◌≤◌, ◌<◌, ℕ, List, ◌++◌, length, Option, None, Some, IsTrue}
use Rattle.std.specs.List.{flat_map, slice_get}
use Rattle.ots_tree.specs.declared.token.Token.{Token}
use Rattle.ots_tree.specs.declared.detached.Detached.{Detached}
use Rattle.ots_tree.specs.Sound.{IsSoundPre}
use Rattle.ots_tree.specs.Wire.{Node, Path, paths, pre}
use Rattle.ots_canon.specs.Canonical.{IsCanonTree}
use Rattle.ots_canon.specs.Order.{Has}
use Rattle.ots_pending.specs.Completed.{gained, IsCompleted}
use Rattle.ots_pending.specs.Grown.{ArePut}
use Rattle.ots_pending.specs.Pairs.{PairAt}
use Rattle.ots_pending.specs.declared.completing.Part.{Part}

-- a completed tree, which is sound for the digest
pub record IsSoundlyCompleted (proof : Detached) (pairs : List PairAt) (trees : List (Option (List Token)))
    (made : List Token) : Type 0 where
  pub completed : IsCompleted proof pairs trees made
  pub sound : IsSoundPre (length proof.digest) 0 made

-- no tree was given
abbrev pub AreNone : List (Option (List Token)) → Type 0
AreNone trees = (i : ℕ) (tree : Option (List Token)) → slice_get trees i ≡ Some tree → tree ≡ None

-- Some of the paths of a completed tree, where a proof has certain paths: these, and all that those with numbers from
-- one up to another gain.
pub record Completes (pairs : List PairAt) (given : List (Option Node)) (m : Option (List ℕ)) (ps : List Path)
    (from to : ℕ) (made : List Path) : Type 0 where
  pub keeps : (p : Path) → Has ps p → Has made p
  pub gains : (i : ℕ) (f p : Path) → from ≤ i → i < to → slice_get ps i ≡ Some f → Has (gained pairs given m f) p
      → Has made p
  pub within : (p : Path) → Has made p → Has (ps ++ flat_map (gained pairs given m) ps) p

-- The paths of a tree are so. It is whole where no path of the proof is left.
pub record IsPart (pairs : List PairAt) (given : List (Option Node)) (m : Option (List ℕ)) (form : List Token)
    (from : ℕ) (part : Part) : Type 0 where
  pub node : Node
  pub node_is : pre node ≡ form
  pub made : Node
  pub made_is : pre made ≡ part.tree
  pub completes : Completes pairs given m (paths node) from part.next (paths made)
  pub whole : IsTrue part.is_whole → length (paths node) ≤ part.next

-- and it is canonical
pub record IsFormOfPart (pairs : List PairAt) (given : List (Option Node)) (m : Option (List ℕ)) (form : List Token)
    (part : Part) : Type 0 where
  pub is : IsPart pairs given m form 0 part
  pub canonical : IsCanonTree (paths is.made) part.tree

-- Trees were given, and these are those that are put.
pub record SomeArePut (pairs : List PairAt) (ready : List (Option (List Token))) : Type 0 where
  pub given : List (Option Node)
  pub are : ArePut pairs given ready
