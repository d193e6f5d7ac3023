use Rattle.std.proofs.Common.{◌≡◌, take}
use Rattle.ots_gateway.specs.Arrived.{waiting_in}
use Rattle.ots_gateway.specs.Ways.{leaves}
use Rattle.ots_gateway.proofs.round.leaves_of.Given as goal

abbrev pub invariant-loop-one : goal.invariant-loop-one
invariant-loop-one l = l.leaves.items ≡ leaves (waiting_in (take l.one-index l.arrived))
