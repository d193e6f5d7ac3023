use Rattle.std.proofs.Common.{◌≡◌, ◌≤◌, ◌+◌, length, drop, arith}
use Rattle.std.proofs.lemmas.Grind.{common_steps}
use Rattle.ots_memory.specs.Entries.{bytes_at}
use Rattle.ots_memory.proofs.EntryNames.{bytes_at-is}
use Rattle.ots_memory.proofs.ShelfCalls.{read_at, read_consistent}
use Rattle.ots_memory.proofs.SlotStates.{part_is, read_consumes}
use Rattle.ots_memory.proofs.map_shelf.MapShelfShelf.read.Goals as goal

pub slice_bounds-rest-end : goal.slice_bounds-rest-end
slice_bounds-rest-end c =
    let s = c.args.self.now in
    let here = read_at s.entries.items s.slots.items s.opened_places.items c.args.slot.0 c.in-Reading.entry c.in-Reading.place c.in-Reading.end c.index.result.now
    c.requires c.index.ensures c.in-Reading.is s.consistent in
    let bytes : bytes_at s.entries.items c.in-Reading.entry ≡ c.index-2.result.now.bytes.items =
    bytes_at-is s.entries.items c.in-Reading.entry c.index-2.result.now (let h = here.sound.entry in omega arith) c.index-2.ensures in
    let fits : c.in-Reading.end ≤ length c.deref-bytes.result.now = rw (c.deref-bytes.ensures.value, ← bytes) here.sound.end in
    omega (arith, fits)

pub invariant_of-self-2 : goal.invariant_of-self-2
invariant_of-self-2 c =
    let s = c.args.self.now in
    let here = read_at s.entries.items s.slots.items s.opened_places.items c.args.slot.0 c.in-Reading.entry c.in-Reading.place c.in-Reading.end c.index.result.now
    c.requires c.index.ensures c.in-Reading.is s.consistent in
    let place : c.in-Reading.place ≤ c.in-Reading.end = here.sound.place in
    let fits : c.in-Reading.place + c.min-count.result ≤ c.in-Reading.end = grind (arith, common_steps) in
    record {
      consistent = read_consistent _ _ _ _ _ _ _ _ here fits s.consistent;
      memory = record {
        all_within = s.memory.all_within;
        all_spare = s.memory.all_spare;
        names_left = s.memory.names_left;
        entries_room = s.memory.entries_room;
        states_room = grind (arith, common_steps);
        opened_room = s.memory.opened_room;
        numbers_fit = grind (arith, common_steps);
      };
    }

pub returns-clause-bytes : goal.returns-clause-bytes
returns-clause-bytes c =
    let s = c.args.self.now in
    let here = read_at s.entries.items s.slots.items s.opened_places.items c.args.slot.0 c.in-Reading.entry c.in-Reading.place c.in-Reading.end c.index.result.now
    c.requires c.index.ensures c.in-Reading.is s.consistent in
    let part = part_is (bytes_at s.entries.items c.in-Reading.entry) c.in-Reading.place c.in-Reading.end here.sound.place in
    let bytes : bytes_at s.entries.items c.in-Reading.entry ≡ c.index-2.result.now.bytes.items =
    bytes_at-is s.entries.items c.in-Reading.entry c.index-2.result.now (let h = here.sound.entry in omega arith) c.index-2.ensures in
    read_consumes s.entries.items s.slots.items c.args.slot.0 c.in-Reading.entry c.in-Reading.place c.in-Reading.end
    c.min-count.result c.copy_from_slice.new.self (drop c.min-count.result c.args.buf.now) here.below here.is
    (grind (arith, common_steps)) (rw (← part, bytes, ← c.deref-bytes.ensures.value) c.copy_from_slice.ensures.after) (λ none room. grind (arith, common_steps))
