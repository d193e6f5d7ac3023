use Rattle.ots_store.proofs.Storing.{store_stands}
use Rattle.ots_store.proofs.store.Store.stands.Goals as goal

pub returns : goal.returns
returns g c = rw (← c.self.view_is) (store_stands g.D.Disk.bytes g.D.Disk.images c.self.inside.journal c.self.inside.held c.self.invariant c.stands.ensures)
