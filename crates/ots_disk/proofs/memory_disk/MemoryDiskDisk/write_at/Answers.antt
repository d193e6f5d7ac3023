use Rattle.std.proofs.Common.{ap, Some}
use Rattle.ots_disk.specs.MemoryDisk.{fails}
use Rattle.ots_disk.specs.declared.disk_call.DiskCall.TheVariants.{Write}
use Rattle.ots_disk.proofs.Steps.{on_ok, on_err, tears_after, torn_after, written_after}
use Rattle.ots_disk.proofs.memory_disk.MemoryDiskDisk.write_at.Goals as goal

pub returns-clause-written : goal.returns-clause-written
returns-clause-written c =
    let d = c.args.self.now in
    on_ok c.make_write.result (fails d (Write c.args.place c.args.piece.now)) _ c.make_write.ensures.failed
    (λ good. ap Some (written_after d c.make_write.new.self c.args.place c.args.piece.now c.make_write.ensures.noted good))

pub returns-clause-failed_write : goal.returns-clause-failed_write
returns-clause-failed_write c =
    let d = c.args.self.now in
    on_err c.make_write.result (fails d (Write c.args.place c.args.piece.now)) _ c.make_write.ensures.failed
    (tears_after d c.make_write.new.self c.args.place c.args.piece.now c.make_write.ensures.noted)

pub returns-clause-torn : goal.returns-clause-torn
returns-clause-torn c = torn_after c.args.self.now c.make_write.new.self c.args.place c.args.piece.now c.make_write.ensures.noted
