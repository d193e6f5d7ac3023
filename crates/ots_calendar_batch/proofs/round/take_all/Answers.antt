use Rattle.std.proofs.Common.{◌++◌, ◌∷◌, ◌∙◌, [], List, ap, subst, sym}
use Rattle.ots_round.specs.declared.ticket.Ticket.{Ticket}
use Rattle.ots_tickets.specs.declared.settled.Settled.{Settled}
use Rattle.ots_calendar_batch.specs.Round.{AreSettled}
use Rattle.ots_calendar_batch.proofs.Taking.{has_last, left_settled, tree_more}
use Rattle.ots_calendar_batch.proofs.round.take_all.Goals as goal

pub take-requires : goal.take-requires
take-requires g c = has_last c.pop.new.self.items c.in-Some.ticket c.loop-ticket.book.tickets.settled
    (subst (λ (z : List Ticket). AreSettled z c.loop-ticket.book.tickets.settled) c.in-Some.ensures.items c.loop-ticket.invariant.are)

pub loop-ticket-preserved : goal.loop-ticket-preserved
loop-ticket-preserved g c =
    let settled = c.loop-ticket.book.tickets.settled in
    let a : AreSettled (c.pop.new.self.items ++ c.in-Some.ticket ∷ []) settled = subst (λ (z : List Ticket). AreSettled z settled) c.in-Some.ensures.items c.loop-ticket.invariant.are in
    let h = has_last c.pop.new.self.items c.in-Some.ticket settled a in
    let taken = c.in_ok-tree.ensures.takes h.before h.last h.is_last in
    record {
      are = left_settled c.pop.new.self.items c.in-Some.ticket settled a h c.take.new.book.tickets.settled taken.1;
      store = c.in_ok-tree.ensures.store ∙ c.loop-ticket.invariant.store;
      trees = tree_more c.args.uri.now c.args.book.now.tickets.settled settled c.take.new.book.tickets.settled h.last c.loop-ticket.trees.items c.push.new.self.items c.in_ok-tree.tree
          c.loop-ticket.invariant.trees (h.is_last.whole ∙ ap (λ (z : List Settled). z ++ h.last ∷ []) (sym taken.1)) taken.0 c.in_ok-push.ensures.items;
    }
