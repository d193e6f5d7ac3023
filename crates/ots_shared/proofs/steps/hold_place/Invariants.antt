use Rattle.std.proofs.Common.{◌≡◌, ℕ, ◌%◌, ◌^◌}
use Rattle.ots_shared.specs.Steps.{at_stage, IsSameSeat}
use Rattle.ots_shared.specs.declared.view.Stage.TheVariants.{Waits}
use Rattle.ots_shared.proofs.steps.hold_place.Given as goal

abbrev pub invariant-loop : goal.invariant-loop
invariant-loop g l = IsSameSeat l.fn.place l.place × ((n : ℕ) × (l.place.me ≡ (at_stage l.fn.place.me.0 (Waits n), l.fn.place.me.1)) × (l.number ≡ n % 2 ^ 64))
