use Rattle.std.proofs.Common.{◌≡◌, ◌∙◌, None, sym, arith}
use Rattle.std.proofs.lemmas.Grind.{common_steps}
use Rattle.std.specs.FinMap as map
use Rattle.ots_memory.specs.Entries.{names_of}
use Rattle.ots_memory.proofs.ShelfCalls.{not_found, grows, longer, added_names, added_consistent, added_within}
use Rattle.ots_memory.proofs.SlotStates.{use_stays, names_stay}
use Rattle.ots_memory.proofs.map_shelf.MapShelf.put.Goals as goal

pub invariant_of-self : goal.invariant_of-self
invariant_of-self c =
    let s = c.args.self.now in
    let none : map.get (names_of s.entries.items) c.args.name.now ≡ None =
    not_found _ c.find_entry.result (rw c.deref.ensures.value at c.find_entry.ensures) (sym c.is_some.ensures ∙ c.if-is_some.false) in
    let long = longer _ _ _ _ _ c.add_entry.ensures.added in
    record {
      consistent = added_consistent _ _ s.slots.items s.opened_places.items _ _ _ c.add_entry.ensures.added none s.consistent;
      memory = record {
        all_within = added_within _ _ _ _ _ c.add_entry.ensures.added s.memory.all_within;
        all_spare = c.add_entry.ensures.spare;
        names_left = grind (arith, common_steps);
        entries_room = grind (arith, common_steps);
        states_room = s.memory.states_room;
        opened_room = s.memory.opened_room;
        numbers_fit = s.memory.numbers_fit;
      };
    }

pub returns-clause-names : goal.returns-clause-names
returns-clause-names c =
    let none : map.get (names_of c.args.self.now.entries.items) c.args.name.now ≡ None =
    not_found _ c.find_entry.result (rw c.deref.ensures.value at c.find_entry.ensures) (sym c.is_some.ensures ∙ c.if-is_some.false) in
    added_names _ _ _ _ _ c.add_entry.ensures.added none

pub returns-clause-opened : goal.returns-clause-opened
returns-clause-opened c = names_stay _ _ c.args.self.now.opened_places.items (grows _ _ _ _ _ c.add_entry.ensures.added) c.args.self.now.consistent.in_range

pub returns-clause-slots : goal.returns-clause-slots
returns-clause-slots c = λ k. use_stays _ _ _ (grows _ _ _ _ _ c.add_entry.ensures.added) (c.args.self.now.consistent.sound k)
