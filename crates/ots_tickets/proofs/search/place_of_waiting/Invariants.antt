use Rattle.std.proofs.Common.{take}
use Rattle.ots_tickets.specs.Slots.{IsHere}
use Rattle.ots_tickets.specs.Tickets.{Waits, NoneIs}
use Rattle.ots_tickets.proofs.search.place_of_waiting.Given as goal

abbrev pub invariant-loop-i : goal.invariant-loop-i
invariant-loop-i l = NoneIs (IsHere (Waits l.ticket)) (take l.i l.waiting)
