use Rattle.std.proofs.Common.{subst, sym}
use Rattle.ots_tickets.specs.Slots.{IsHere}
use Rattle.ots_tickets.specs.Tickets.{IsSettled}
use Rattle.ots_tickets.proofs.Places.{none_more}
use Rattle.ots_tickets.proofs.search.place_of_settled.Goals as goal

pub loop-i-preserved : goal.loop-i-preserved
loop-i-preserved c =
    none_more (IsHere (IsSettled c.args.ticket.now)) c.args.settled.now c.loop-i.i c.index-settled-i.result c.loop-i-test.true c.loop-i.invariant
    (λ here. c.is_settled.ensures.no c.if-is_settled.false (subst (IsHere (IsSettled c.args.ticket.now)) (sym c.index-settled-i.is) here))
