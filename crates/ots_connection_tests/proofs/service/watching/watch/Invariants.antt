use Rattle.std.proofs.Common.{◌≡◌, false}
use Rattle.ots_shared.specs.Told.{IsPassOf}
use Rattle.ots_connection_tests.proofs.service.watching.watch.Given as goal

abbrev pub invariant-loop : goal.invariant-loop
invariant-loop g l = IsPassOf l.shared l.pass × (l.pass.seat ≡ l.fn.pass.seat) × (l.pass.holding ≡ false)
