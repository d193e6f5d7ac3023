use Rattle.std.proofs.Common.{arith, ap, length, ◌∙◌}
use Rattle.ots_store.proofs.Storing.{entries_few}
use Rattle.ots_store.proofs.store.Store.commits.Goals as goal

pub returns-clause-bound : goal.returns-clause-bound
returns-clause-bound g c = omega (arith, entries_few c.self.inside.journal.entries, c.count.ensures.count, c.count.ensures.bound, ap length (c.commitments.ensures ∙ c.self.invariant.holds.commitments))
