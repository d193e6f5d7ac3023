use Rattle.std.proofs.Common.{arith}
use Rattle.ots_store.proofs.Storing.{rises, covered_few}
use Rattle.ots_store.proofs.store.Store.covered.Goals as goal

pub covered-requires-clause-rises : goal.covered-requires-clause-rises
covered-requires-clause-rises g c = rises c.self.inside.journal.entries c.self.inside.held.anchors.kept c.self.invariant.are c.self.invariant.holds.anchors

pub covered-requires-clause-small : goal.covered-requires-clause-small
covered-requires-clause-small g c = omega (arith, covered_few c.self.inside.journal.entries c.self.inside.held.anchors.kept c.self.invariant.are c.self.invariant.holds.anchors, c.count.ensures.count, c.count.ensures.bound)
