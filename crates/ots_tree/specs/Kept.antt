-- How a tree is kept: its tokens, and beside each the number of operations before it.
use Rattle.std.specs.Prelude.{◌≡◌, ℕ, List, [], ◌∷◌, map}
use Rattle.std.specs.List.{AllByRecursion}
use Rattle.ots_tree.specs.declared.token.Token.{Token}
use Rattle.ots_tree.specs.declared.token.TokenAt.{TokenAt}
use Rattle.ots_tree.specs.Wire.{Node, pre, IsToken}
use Rattle.ots_tree.specs.Listed.{listed}

abbrev pub depth_of : TokenAt → ℕ
depth_of l = l.depth

-- the tokens of some tree, each within its limits, and the numbers that stand beside them in its listing
pub record IsKept (tokens : List Token) (depths : List ℕ) : Type 0 where
  pub node : Node
  pub tokens_are : pre node ≡ tokens
  pub depths_are : map depth_of (listed 0 node) ≡ depths
  pub limits : AllByRecursion IsToken tokens

-- each token with the number beside it
abbrev pub beside : List Token → List ℕ → List TokenAt
beside [] ks = []
beside (x ∷ xs) [] = []
beside (x ∷ xs) (k ∷ ks) = record { token = x; depth = k } ∷ beside xs ks
