use Rattle.std.proofs.Common.{◌≡◌, ◌<◌, ℕ, List, Option, Some}
use Rattle.std.specs.List.{slice_get}
use Rattle.ots_tree.specs.declared.token.Token.{Token}
use Rattle.ots_pending.specs.Completed.{IsSoundFor}
use Rattle.ots_pending.proofs.fitting.are_sound_for.Given as goal

-- Those before are sound.
abbrev pub invariant-loop-i : goal.invariant-loop-i
invariant-loop-i l = (k : ℕ) (tree : Option (List Token)) → k < l.i → slice_get l.trees k ≡ Some tree → IsSoundFor l.pairs k tree
