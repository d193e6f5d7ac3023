use Rattle.std.proofs.Common.{◌≡◌, false, sym, ◌∙◌, ap, List, ℕ, arith}
use Rattle.ots_disk.specs.Disk.{put}
use Rattle.ots_disk.specs.MemoryDisk.{MemoryDiskTold, is_past}
use Rattle.ots_disk.specs.Notes.{after_note}
use Rattle.ots_disk.specs.declared.disk_call.DiskCall.TheVariants.{Write}
use Rattle.ots_disk.proofs.Steps.{kept_failed, kept_written, grows}
use Rattle.ots_disk.proofs.memory_disk.MemoryDisk.make_write.Goals as goal

pub invariant_of-self-in-Ok : goal.invariant_of-self-in-Ok
invariant_of-self-in-Ok c =
    let s = c.self.inside in
    let d : MemoryDiskTold = record { first = s.first.items; notes = s.notes; write_room = s.spare.room; file_room = s.contents.room } in
    let within : is_past d (Write c.args.place c.args.piece.now) ≡ false = sym (rw (← c.self.view_is) at c.is_past.ensures) ∙ c.if-is_past.false in
    let noted : c.note.new.self ≡ after_note s.notes (Write c.args.place c.args.piece.now) = rw c.fill-copy.ensures.bytes at c.note.ensures.noted in
    let more = grows s.notes c.note.new.self (Write c.args.place c.args.piece.now) noted in (
      c.put.ensures.bytes ∙ ap (λ (l : List ℕ). put c.args.place c.args.piece.now l) c.self.invariant.0
          ∙ sym (kept_written d c.note.new.self c.args.place c.args.piece.now within c.in-Ok.ensures.failed noted),
      omega (arith, c.self.invariant.1, c.fill-copy.ensures.taken, more.room, more.one_more (sym c.is_full.ensures ∙ c.if-is_full.false)),
    )

pub invariant_of-self-in-Err : goal.invariant_of-self-in-Err
invariant_of-self-in-Err c =
    let s = c.self.inside in
    let d : MemoryDiskTold = record { first = s.first.items; notes = s.notes; write_room = s.spare.room; file_room = s.contents.room } in
    let within : is_past d (Write c.args.place c.args.piece.now) ≡ false = sym (rw (← c.self.view_is) at c.is_past.ensures) ∙ c.if-is_past.false in
    let noted : c.note.new.self ≡ after_note s.notes (Write c.args.place c.args.piece.now) = rw c.fill-copy.ensures.bytes at c.note.ensures.noted in
    let more = grows s.notes c.note.new.self (Write c.args.place c.args.piece.now) noted in (
      c.self.invariant.0 ∙ sym (kept_failed d c.note.new.self c.args.place c.args.piece.now within c.in-Err.ensures.failed noted),
      omega (arith, c.self.invariant.1, c.fill-copy.ensures.taken, more.room, more.one_more (sym c.is_full.ensures ∙ c.if-is_full.false)),
    )
