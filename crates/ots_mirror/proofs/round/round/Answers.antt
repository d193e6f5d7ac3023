use Rattle.std.proofs.Common.{ℕ, subst}
use Rattle.ots_base.specs.Cause.{Rose}
use Rattle.ots_conversation.specs.Conversation.{Talks}
use Rattle.ots_http.specs.declared.asking.Asked.TheVariants as asked
use Rattle.ots_mirror.proofs.Asked.{round_made}
use Rattle.ots_mirror.proofs.round.round.Goals as goal

pub returns-clause-made : goal.returns-clause-made
returns-clause-made g c =
    round_made g.T.Dialer.told g.T.Dialer.faults c.args.address.now c.args.store.now.records c.args.dialer.now c.converse-read.new.dialer c.converse-read.result
    g.D.Disk.clock g.D.Disk.images g.D.Disk.images_since (Rose (g.D.Disk.faults c.args.store.now.journal.disk) (g.D.Disk.faults c.take_reply.new.store.journal.disk)) _ _ c.take_reply.result
    (subst (λ (z : ℕ). Talks g.T.Dialer.told g.T.Dialer.faults (record { address = c.args.address.now; asked = asked.Records z }) c.args.dialer.now c.converse-read.new.dialer c.converse-read.result) c.entries.ensures.count c.converse-read.ensures)
    c.take_reply.ensures.taken
