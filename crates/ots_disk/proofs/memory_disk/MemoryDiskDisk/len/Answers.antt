use Rattle.std.proofs.Common.{refl}
use Rattle.ots_disk.specs.declared.disk_call.DiskCall.TheVariants.{Length}
use Rattle.ots_disk.proofs.Steps.{no_more_after}
use Rattle.ots_disk.proofs.memory_disk.MemoryDiskDisk.len.Goals as goal

pub returns-then-is_err-clause-no_more : goal.returns-then-is_err-clause-no_more
returns-then-is_err-clause-no_more c = no_more_after c.args.self.now c.make.new.self Length c.make.ensures.noted refl

pub returns-clause-no_more : goal.returns-clause-no_more
returns-clause-no_more c = no_more_after c.args.self.now c.make.new.self Length c.make.ensures.noted refl
