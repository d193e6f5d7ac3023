-- The limits of trees: for the code, which may count on them at any tree.
use Rattle.std.specs.Prelude.{◌≡◌, ℕ, List, Option, None, Some}
use Rattle.std.specs.List.{AllByRecursion, slice_get}
use Rattle.ots_tree.specs.declared.token.Token.{Token}
use Rattle.ots_tree.specs.Wire.{IsToken}

-- the tokens of a tree, if it is one, are within their limits
abbrev pub HasLimits : Option (List Token) → Type 0
HasLimits None = Unit {0}
HasLimits (Some ts) = AllByRecursion IsToken ts

abbrev pub HaveLimits : List (Option (List Token)) → Type 0
HaveLimits trees = (i : ℕ) (tree : Option (List Token)) → slice_get trees i ≡ Some tree → HasLimits tree
