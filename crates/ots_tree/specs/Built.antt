-- How a tree is kept while its tokens come. These words serve its code.
use Rattle.std.specs.Prelude.{◌≡◌, ℕ, List, ◌++◌, map}
use Rattle.std.specs.List.{AllByRecursion}
use Rattle.ots_tree.specs.declared.token.Token.{Token}
use Rattle.ots_tree.specs.Wire.{IsPre, IsToken}
use Rattle.ots_tree.specs.Walk.{Open, Met, met, begun, Ends}
use Rattle.ots_tree.specs.OpenDepths.{one_more}

abbrev pub carried : Met ℕ → ℕ
carried m = m.carried

-- the number of operations before each of these tokens
abbrev pub before : Open ℕ → List Token → List ℕ
before s ts = map carried (met one_more s ts)

-- the numbers before these tokens are those that are not noted yet
pub record Left (all noted : List ℕ) (s : Open ℕ) (ts : List Token) : Type 0 where
  pub numbers : noted ++ before s ts ≡ all
  pub ends : Ends one_more s ts

-- The numbers beside the tokens that have come are theirs, whatever comes after them, where all are those
-- of a tree.
pub record IsBuilt (tokens : List Token) (depths : List ℕ) (s : Open ℕ) : Type 0 where
  pub left : (more : List Token) → IsPre (tokens ++ more) → Left (before (begun 0) (tokens ++ more)) depths s more
  pub limits : AllByRecursion IsToken tokens
