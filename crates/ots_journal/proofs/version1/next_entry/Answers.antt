use Rattle.std.proofs.Common.{◌<◌, length, arith}
use Rattle.std.proofs.lemmas.Grind.{common_steps}
use Rattle.ots_journal.specs.declared.entry.Entry.{Entry}
use Rattle.ots_journal.proofs.OldReading.{adds_entry}
use Rattle.ots_journal.proofs.version1.next_entry.Goals as goal

pub returns : goal.returns
returns c =
    let e : Entry = record { kind = c.in-Some.kind; payload = c.in-Some.payload.now } in
    let some : 0 < length c.in-Some.after.now = grind (arith, common_steps) in
    adds_entry c.args.bytes.now c.in-Some.after.now c.args.entries.now.items c.add_copy.new.entries.items e c.in-Some.ensures.some some c.in_ok-add_copy.ensures
