use Rattle.ots_calendar.proofs.Growing.{tip_grows, anchor_grows, close_grows}
use Rattle.ots_calendar.proofs.laws.calls_grow.Goals as goal

pub returns-clause-close : goal.returns-clause-close
returns-clause-close g c = close_grows g.D.Disk.bytes g.D.Disk.clock g.D.Disk.images_since

pub returns-clause-tip : goal.returns-clause-tip
returns-clause-tip g c = tip_grows g.D.Disk.bytes g.D.Disk.clock g.D.Disk.images_since

pub returns-clause-anchor : goal.returns-clause-anchor
returns-clause-anchor g c = anchor_grows g.D.Disk.bytes g.D.Disk.clock g.D.Disk.images_since
