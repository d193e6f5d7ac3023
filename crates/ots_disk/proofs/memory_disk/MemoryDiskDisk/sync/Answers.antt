use Rattle.std.proofs.Common.{refl}
use Rattle.ots_disk.specs.MemoryDisk.{fails}
use Rattle.ots_disk.specs.declared.disk_call.DiskCall.TheVariants.{Sync}
use Rattle.ots_disk.proofs.Steps.{durable_after, no_more_after, on_ok, on_err, stays_after}
use Rattle.ots_disk.proofs.memory_disk.MemoryDiskDisk.sync.Goals as goal

pub returns-clause-durable : goal.returns-clause-durable
returns-clause-durable c = on_ok c.make.result (fails c.args.self.now Sync) _ c.make.ensures.failed (durable_after c.args.self.now c.make.new.self c.make.ensures.noted)

pub returns-clause-failed_sync : goal.returns-clause-failed_sync
returns-clause-failed_sync c = on_err c.make.result (fails c.args.self.now Sync) _ c.make.ensures.failed (stays_after c.args.self.now c.make.new.self c.make.ensures.noted)

pub returns-clause-no_more : goal.returns-clause-no_more
returns-clause-no_more c = no_more_after c.args.self.now c.make.new.self Sync c.make.ensures.noted refl
