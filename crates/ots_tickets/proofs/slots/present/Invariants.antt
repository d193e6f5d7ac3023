use Rattle.std.proofs.Common.{◌≡◌, take}
use Rattle.ots_tickets.specs.Slots.{present}
use Rattle.ots_tickets.proofs.slots.present.Given as goal

abbrev pub invariant-loop-slot : goal.invariant-loop-slot
invariant-loop-slot l = l.tickets.items ≡ present (take l.slot-index l.slots)
