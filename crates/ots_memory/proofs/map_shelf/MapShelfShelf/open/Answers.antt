use Rattle.std.proofs.Common.{◌≡◌, length, arith}
use Rattle.std.proofs.lemmas.Grind.{common_steps}
use Rattle.ots_memory.specs.Entries.{bytes_at}
use Rattle.ots_memory.proofs.EntryNames.{bytes_at-is}
use Rattle.ots_memory.proofs.ShelfCalls.{opens, opened_consistent}
use Rattle.ots_memory.proofs.map_shelf.MapShelfShelf.open.Goals as goal

pub invariant_of-self-2 : goal.invariant_of-self-2
invariant_of-self-2 c =
    let s = c.args.self.now in
    let found = rw c.deref.ensures.value at c.in-Some.ensures in
    let bytes : bytes_at s.entries.items c.in-Some.entry ≡ c.index.result.now.bytes.items = bytes_at-is s.entries.items c.in-Some.entry c.index.result.now found.0 c.index.ensures in
    let end : c.len-end.result ≡ length (bytes_at s.entries.items c.in-Some.entry) = rw bytes (grind (arith, common_steps)) in
    record {
      consistent = opened_consistent _ s.slots.items _ s.opened_places.items _ _ _ found.0 end c.add_slot.ensures.added (grind (arith, common_steps)) s.consistent;
      memory = record {
        all_within = s.memory.all_within;
        all_spare = s.memory.all_spare;
        names_left = s.memory.names_left;
        entries_room = s.memory.entries_room;
        states_room = grind (arith, common_steps);
        opened_room = grind (arith, common_steps);
        numbers_fit = grind (arith, common_steps);
      };
    }

pub returns-clause-ok : goal.returns-clause-ok
returns-clause-ok c =
    let s = c.args.self.now in
    let found = rw c.deref.ensures.value at c.in-Some.ensures in
    let bytes : bytes_at s.entries.items c.in-Some.entry ≡ c.index.result.now.bytes.items = bytes_at-is s.entries.items c.in-Some.entry c.index.result.now found.0 c.index.ensures in
    let end : c.len-end.result ≡ length (bytes_at s.entries.items c.in-Some.entry) = rw bytes (grind (arith, common_steps)) in
    opens s.entries.items s.slots.items c.add_slot.new.slots.items s.opened_places.items c.push.new.self.items c.in-Some.entry _ _ c.len-end.result
    found.1 found.2 c.add_slot.ensures.number end c.add_slot.ensures.added (grind (arith, common_steps))
