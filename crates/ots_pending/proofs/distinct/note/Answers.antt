use Rattle.ots_pending.proofs.Maps.{noted}
use Rattle.ots_pending.proofs.distinct.note.Goals as goal

pub returns-clause-there : goal.returns-clause-there
returns-clause-there c =
    let updates = c.in_ok-insert.ensures.updates in
    noted c.args.by_digest.now.entries c.insert.new.self.entries c.args.digest c.args.number updates.0 updates.1
