use Rattle.std.proofs.Common.{sym, ◌∙◌, arith}
use Rattle.ots_disk.proofs.Steps.{kept_quiet, grows}
use Rattle.ots_disk.specs.MemoryDisk.{MemoryDiskTold}
use Rattle.ots_disk.proofs.memory_disk.MemoryDisk.make.Goals as goal

pub invariant_of-self : goal.invariant_of-self
invariant_of-self c =
    let s = c.self.inside in
    let d : MemoryDiskTold = record { first = s.first.items; notes = s.notes; write_room = s.spare.room; file_room = s.contents.room } in
    let more = grows s.notes c.note.new.self c.args.call c.note.ensures.noted in (
      c.self.invariant.0 ∙ sym (kept_quiet d c.note.new.self c.args.call c.requires c.note.ensures.noted),
      omega (arith, c.self.invariant.1, more.room, more.no_less),
    )

pub returns-clause-same : goal.returns-clause-same
returns-clause-same c =
    let s = c.self.inside in
    let d : MemoryDiskTold = record { first = s.first.items; notes = s.notes; write_room = s.spare.room; file_room = s.contents.room } in
    rw (← c.self.view_is) (kept_quiet d c.note.new.self c.args.call c.requires c.note.ensures.noted)
