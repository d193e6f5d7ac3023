use Rattle.std.proofs.Common.{take}
use Rattle.ots_tickets.specs.Slots.{IsHere}
use Rattle.ots_tickets.specs.Tickets.{IsSettled, NoneIs}
use Rattle.ots_tickets.proofs.search.place_of_settled.Given as goal

abbrev pub invariant-loop-i : goal.invariant-loop-i
invariant-loop-i l = NoneIs (IsHere (IsSettled l.ticket)) (take l.i l.settled)
