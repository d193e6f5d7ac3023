use Rattle.ots_journal.proofs.Staging.{forgotten_entries}
use Rattle.ots_journal.proofs.stored.Stored.forget.Goals as goal

pub returns-clause-entries : goal.returns-clause-entries
returns-clause-entries c =
    let s = c.self.inside in
    rw (← c.self.view_is, c.truncate.ensures.items, c.truncate-2.ensures.items) (forgotten_entries s.file.items s.places.items s.held s.mark c.self.invariant.held_within)
