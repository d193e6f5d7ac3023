use Rattle.ots_asking.proofs.Conversing.{breaks_off, converses}
use Rattle.ots_asking.proofs.conversation.converse.Goals as goal

pub returns-clause-asked : goal.returns-clause-asked
returns-clause-asked g c =
    converses _ _ _ c.converse-read.result c.converse-read.ensures c.outcome_of.result c.outcome_of.ensures.outcome c.outcome_of.ensures.unreachable
    c.outcome_of.ensures.memory

pub returns-clause-broken_off : goal.returns-clause-broken_off
returns-clause-broken_off g c = breaks_off _ _ _ c.converse-read.result c.converse-read.ensures c.outcome_of.result
