use Rattle.std.proofs.Common.{◌≡◌, ◌+◌, ◌++◌, ◌∷◌, [], take, length, sym, ◌∙◌, ap, arith, append_assoc, length-append}
use Rattle.std.proofs.lemmas.List.{take_more}
use Rattle.std.proofs.lemmas.Grind.{common_steps}
use Rattle.ots_journal.specs.Image.{entry_bytes, entries_bytes}
use Rattle.ots_journal.specs.declared.entry.Entry.{Entry}
use Rattle.ots_journal.proofs.Groups.{entries_more, entries_so_far}
use Rattle.ots_journal.proofs.Places.{nothing_added, adds_more}
use Rattle.ots_journal.proofs.spelling.add_entries.Goals as goal

pub loop-entry-init : goal.loop-entry-init
loop-entry-init c = record {
  bytes = grind (arith, common_steps);
  count = grind (arith, common_steps);
  entries = nothing_added c.args.file.now.items c.args.places.now.items;
  file_room = omega arith;
  places_room = omega arith;
}

pub add_entry-requires-clause-file_room : goal.add_entry-requires-clause-file_room
add_entry-requires-clause-file_room c =
    let i = c.loop-entry.entry-index in
    let es = c.args.entries.now in
    omega (
      arith,
      ap length c.loop-entry.invariant.bytes,
      length-append c.args.file.now.items (entries_bytes (take i es)),
      entries_so_far es i c.entry-item.result c.loop-entry-test.true,
      ap (λ (e : Entry). length e.payload) c.entry-item.is,
      ap length c.items.ensures,
      c.loop-entry.invariant.file_room,
      c.requires.file_room,
    )

pub add_entry-requires-clause-places_room : goal.add_entry-requires-clause-places_room
add_entry-requires-clause-places_room c = omega (arith, c.loop-entry.invariant.count, c.loop-entry-test.true, c.loop-entry.invariant.places_room, c.requires.places_room)

pub add_entry-requires-clause-fits : goal.add_entry-requires-clause-fits
add_entry-requires-clause-fits c =
    let i = c.loop-entry.entry-index in
    let es = c.args.entries.now in
    omega (
      arith,
      ap length c.loop-entry.invariant.bytes,
      length-append c.args.file.now.items (entries_bytes (take i es)),
      entries_so_far es i c.entry-item.result c.loop-entry-test.true,
      ap (λ (e : Entry). length e.payload) c.entry-item.is,
      ap length c.items.ensures,
      c.requires.small,
    )

pub loop-entry-preserved : goal.loop-entry-preserved
loop-entry-preserved c =
    let i = c.loop-entry.entry-index in
    let es = c.args.entries.now in
    let e = c.entry-item.result in
    let file : c.add_entry.new.file.items ≡ c.loop-entry.file.items ++ entry_bytes e = rw c.items.ensures at c.add_entry.ensures.bytes in
    let taken : take (i + 1) es ≡ take i es ++ e ∷ [] = take_more es i e c.loop-entry-test.true ∙ ap (λ (x : Entry). take i es ++ x ∷ []) (sym c.entry-item.is) in
    record {
      bytes = grind (arith, common_steps, file, c.loop-entry.invariant.bytes, entries_more es i e c.loop-entry-test.true, c.entry-item.is, append_assoc c.args.file.now.items (entries_bytes (take i es)) (entry_bytes e));
      count = omega (arith, ap length c.add_entry.ensures.places, length-append c.loop-entry.places.items (record { kind = e.kind; start = length c.loop-entry.file.items + 5; length = length c.items.result.now } ∷ []), c.loop-entry.invariant.count);
      entries = rw taken (adds_more c.args.file.now.items c.loop-entry.file.items c.add_entry.new.file.items c.args.places.now.items c.loop-entry.places.items c.add_entry.new.places.items (take i es) e c.loop-entry.invariant.entries file (rw c.items.ensures at c.add_entry.ensures.places));
      file_room = omega (arith, c.loop-entry.invariant.file_room, c.add_entry.ensures.file_room);
      places_room = omega (arith, c.loop-entry.invariant.places_room, c.add_entry.ensures.places_room);
    }
