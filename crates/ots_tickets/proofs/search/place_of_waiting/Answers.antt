use Rattle.std.proofs.Common.{subst, sym}
use Rattle.ots_tickets.specs.Slots.{IsHere}
use Rattle.ots_tickets.specs.Tickets.{Waits}
use Rattle.ots_tickets.proofs.Places.{none_more}
use Rattle.ots_tickets.proofs.search.place_of_waiting.Goals as goal

pub loop-i-preserved : goal.loop-i-preserved
loop-i-preserved c =
    none_more (IsHere (Waits c.args.ticket.now)) c.args.waiting.now c.loop-i.i c.index-waiting-i.result c.loop-i-test.true c.loop-i.invariant
    (λ here. c.waits.ensures.no c.if-waits.false (subst (IsHere (Waits c.args.ticket.now)) (sym c.index-waiting-i.is) here))
