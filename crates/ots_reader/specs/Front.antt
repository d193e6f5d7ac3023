-- The tokens that have come, as a reader holds them. These words serve its code.
use Rattle.std.specs.Prelude.{◌≡◌, [], ◌∷◌, ◌++◌, length, Bool, Some, Result, Ok, Err, if◌then◌else◌}
use Rattle.std.specs.List.{AllByRecursion}
use Rattle.ots_tree.specs.declared.token.Token.{Token}
use Rattle.ots_tree.specs.Wire.{spelled, IsToken}
use Rattle.ots_tree.specs.Walk.{open_at, none_open}
use Rattle.ots_tree.specs.Front.{start, opened}
use Rattle.ots_reader.specs.declared.front.TheConstants.{MAX_OTHERS}
use Rattle.ots_reader.specs.declared.front.Front.{Front}
use Rattle.ots_reader.specs.declared.fault.Fault.{Fault}
use Rattle.ots_reader.specs.OneAnswer.{IsShape}
use Rattle.ots_reader.specs.TreeFault.{place_fault}

-- The walk stands after the tokens, and there is room for whatever comes, and no more.
pub record IsStanding (f : Front) : Type 0 where
  pub shape : IsShape f.below.length f.below.depth
  pub fits : AllByRecursion IsToken f.came.tokens
  pub opens : opened (start f.below.length f.below.depth) f.came.tokens
      ≡ Some (if f.whole then none_open else open_at f.walk)
  pub place : f.place ≡ length (spelled f.came.tokens)
  pub nodes : f.walk.room ≡ MAX_OTHERS

-- What becomes of one more token, and whether it is the tree's last one.
abbrev pub ComesTo : Front → Token → Result Bool Fault → Front → Type 0
ComesTo old x (Ok last) new = (new.came.tokens ≡ old.came.tokens ++ x ∷ []) × (new.whole ≡ last)
ComesTo old x (Err f) new = (f.place ≡ old.place) × (place_fault old.walk.last old.walk.forked x ≡ Some f.reason)
