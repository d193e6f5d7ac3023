use Rattle.std.proofs.Common.{subst}
use Rattle.ots_tickets.specs.Calls.{Takes}
use Rattle.ots_tickets.specs.declared.tickets.Taken.{Taken}
use Rattle.ots_calendar_batch.proofs.Taking.{taken_last}
use Rattle.ots_calendar_batch.proofs.round.take.Goals as goal

pub returns-clause-takes : goal.returns-clause-takes
returns-clause-takes g c =
    taken_last c.args.ticket.now c.args.uri.now c.args.book.now.tickets c.take.new.self.tickets c.requires c.in-Settled.tree c.in-Settled.field-1
    (subst (λ (z : Taken). Takes c.args.ticket.now c.args.uri.now c.args.book.now.tickets c.take.new.self.tickets z) c.in-Settled.is c.in_ok-tree.ensures.takes)
