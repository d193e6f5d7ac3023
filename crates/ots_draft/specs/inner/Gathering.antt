-- For what gathers trees in one.
use Rattle.std.specs.Prelude.{◌≡◌, ◌<◌, ℕ, List, [], length, map, Option, None, Some}
use Rattle.std.specs.List.{AllByRecursion, flat_map}
use Rattle.ots_canon.specs.Canonical.{IsCanonTree}
use Rattle.ots_canon.specs.Order.{HaveSame}
use Rattle.ots_tree.specs.Wire.{IsToken, Node, Path, paths, pre, spelled}
use Rattle.ots_tree.specs.declared.token.Token.{Token}

-- One tree has these paths.
pub record HasPaths (ps : List Path) (tree : List Token) : Type 0 where
  pub node : Node
  pub are : pre node ≡ tree
  pub paths_are : paths node ≡ ps

-- One tree has these paths, or there is none and no path.
abbrev pub HasPathsAny : List Path → Option (List Token) → Type 0
HasPathsAny ps None = ps ≡ []
HasPathsAny ps (Some tree) = HasPaths ps tree

-- These are the tokens of a tree, within their limits.
pub record IsTree (tree : List Token) : Type 0 where
  pub node : Node
  pub are : pre node ≡ tree
  pub limits : AllByRecursion IsToken tree

abbrev pub AreTrees : List (List Token) → Type 0
AreTrees trees = AllByRecursion IsTree trees

-- One tree has the paths of all these, in whatever order and however often.
pub record HasAll (nodes : List Node) (tree : List Token) : Type 0 where
  pub node : Node
  pub are : pre node ≡ tree
  pub same : HaveSame (paths node) (flat_map paths nodes)

-- The canonical tree of the paths of all these.
pub record HaveForm (trees : List (List Token)) (form : List Token) : Type 0 where
  pub nodes : List Node
  pub are : map pre nodes ≡ trees
  pub canon : IsCanonTree (flat_map paths nodes) form

-- A canonical form is told, or it is spelled in more than so many bytes.
abbrev pub IfTold : ℕ → List Token → Option (List Token) → Type 0
IfTold most whole None = most < length (spelled whole)
IfTold most whole (Some form) = form ≡ whole

-- Trees have a canonical form, which is told, or is spelled in more than so many bytes.
pub record IsFormWithin (trees : List (List Token)) (most : ℕ) (result : Option (List Token)) : Type 0 where
  pub whole : List Token
  pub is : HaveForm trees whole
  pub told : IfTold most whole result
