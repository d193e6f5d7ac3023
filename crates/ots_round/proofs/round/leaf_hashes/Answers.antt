use Rattle.std.proofs.Common.{◌++◌, ◌∷◌, [], sym, ◌∙◌}
use Rattle.ots_round.specs.Round.{leaf}
use Rattle.ots_round.proofs.Leading.{up_to}
use Rattle.ots_round.proofs.round.leaf_hashes.Goals as goal

pub loop-ticket-preserved : goal.loop-ticket-preserved
loop-ticket-preserved c =
    c.in_ok-push.ensures.items ∙ (λ i. c.loop-ticket.invariant i ++ c.leaf_hash.ensures i ∷ [])
    ∙ sym (up_to leaf c.args.tickets.now c.loop-ticket.ticket-index c.ticket-item.result c.loop-ticket-test.true c.ticket-item.is)
