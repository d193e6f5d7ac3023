use Rattle.std.proofs.Common.{◌≡◌, ◌<◌, ℕ, Some}
use Rattle.std.specs.List.{slice_get}
use Rattle.ots_pending.proofs.distinct.place_among.Given as goal

-- It stands at no place before.
abbrev pub invariant-loop-place : goal.invariant-loop-place
invariant-loop-place l = (i : ℕ) → i < l.place → slice_get l.items i ≡ Some l.bytes → ⊥
