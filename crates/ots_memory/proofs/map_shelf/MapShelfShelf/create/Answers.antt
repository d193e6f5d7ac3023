use Rattle.std.proofs.Common.{◌≡◌, ◌∙◌, None, sym, arith}
use Rattle.std.proofs.lemmas.Grind.{common_steps}
use Rattle.std.specs.FinMap as map
use Rattle.ots_memory.specs.Entries.{names_of}
use Rattle.ots_memory.proofs.ShelfCalls.{not_found, longer, added_within, creates, created_consistent}
use Rattle.ots_memory.proofs.map_shelf.MapShelfShelf.create.Goals as goal

pub invariant_of-self-2 : goal.invariant_of-self-2
invariant_of-self-2 c =
    let s = c.args.self.now in
    let none : map.get (names_of s.entries.items) c.args.name.now ≡ None =
    not_found _ c.find_entry.result (rw c.deref.ensures.value at c.find_entry.ensures) (sym c.is_some.ensures ∙ c.if-is_some.false) in
    let long = longer _ _ _ _ _ c.add_entry.ensures.added in
    record {
      consistent = created_consistent _ _ s.slots.items _ s.opened_places.items _ _ _ c.add_entry.ensures.added none (grind (arith, common_steps)) c.add_slot.ensures.added s.consistent;
      memory = record {
        all_within = added_within _ _ _ _ _ c.add_entry.ensures.added s.memory.all_within;
        all_spare = c.add_entry.ensures.spare;
        names_left = grind (arith, common_steps);
        entries_room = grind (arith, common_steps);
        states_room = grind (arith, common_steps);
        opened_room = grind (arith, common_steps);
        numbers_fit = grind (arith, common_steps);
      };
    }

pub returns-clause-ok : goal.returns-clause-ok
returns-clause-ok c =
    let s = c.args.self.now in
    let none : map.get (names_of s.entries.items) c.args.name.now ≡ None =
    not_found _ c.find_entry.result (rw c.deref.ensures.value at c.find_entry.ensures) (sym c.is_some.ensures ∙ c.if-is_some.false) in
    creates s.entries.items c.add_entry.new.entries.items s.slots.items c.add_slot.new.slots.items s.opened_places.items c.args.name.now _ _ c.len.result
    c.add_entry.ensures.added none c.add_slot.ensures.number (grind (arith, common_steps)) c.add_slot.ensures.added s.consistent
