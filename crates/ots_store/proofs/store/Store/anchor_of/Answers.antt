use Rattle.ots_store.proofs.Storing.{rises}
use Rattle.ots_store.proofs.store.Store.anchor_of.Goals as goal

pub anchor_of-requires : goal.anchor_of-requires
anchor_of-requires g c = rises c.self.inside.journal.entries c.self.inside.held.anchors.kept c.self.invariant.are c.self.invariant.holds.anchors
