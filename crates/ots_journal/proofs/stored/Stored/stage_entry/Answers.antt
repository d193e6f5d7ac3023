use Rattle.std.proofs.Common.{◌≡◌, ◌<◌, ◌≤◌, ◌+◌, ◌++◌, ◌∷◌, [], List, ℕ, drop, length, refl, sym, ◌∙◌, ap, arith, length-append, length-drop, ◌^◌}
use Rattle.std.proofs.lemmas.List.{append-nil}
use Rattle.std.proofs.lemmas.Grind.{common_steps}
use Rattle.ots_journal.specs.Image.{entry_bytes, entries_bytes}
use Rattle.ots_journal.specs.Stored.{entries_at, Adds, staged_bytes}
use Rattle.ots_journal.specs.declared.entry.Entry.{Entry}
use Rattle.ots_journal.proofs.Groups.{length-entry}
use Rattle.ots_journal.proofs.Places.{adds_anew}
use Rattle.ots_journal.proofs.Staging.{with_head, spelled, size_of_staged, count_added, staged_entries, staged_flight, staged_is, held_within_all, flight_within_all}
use Rattle.ots_journal.proofs.stored.Stored.stage_entry.Goals as goal

pub add_entry-requires-clause-fits : goal.add_entry-requires-clause-fits
add_entry-requires-clause-fits c =
    let s = c.self.inside in
    let long = with_head s.file.items c.add_head.new.file.items 1 (length c.args.payload.now + 5) c.add_head.ensures.bytes in
    let none : drop s.mark s.file.items ≡ [] = rw (← c.self.view_is) at c.requires.none in
    let small : s.mark + 13 + length c.args.payload.now < 2 ^ 32 = rw (← c.self.view_is) at c.requires.small in
    omega (arith, long, small, ap length none, length-drop s.mark s.file.items, c.self.invariant.mark_there)

pub invariant_of-self : goal.invariant_of-self
invariant_of-self c =
    let s = c.self.inside in
    let e : Entry = record { kind = c.args.kind; payload = c.args.payload.now } in
    let group : List Entry = e ∷ [] in
    let none : drop s.mark s.file.items ≡ [] = rw (← c.self.view_is) at c.requires.none in
    let no_flight : entries_at s.file.items (drop s.held s.places.items) ≡ [] = rw (← c.self.view_is) at c.requires.no_flight in
    let entry_room : 1 ≤ s.spare_entries = rw (← c.self.view_is) at c.requires.entry_room in
    let byte_room : length c.args.payload.now ≤ s.spare_bytes = rw (← c.self.view_is) at c.requires.byte_room in
    let last : c.push.new.self.items ≡ c.add_entry.new.file.items ++ 0 ∷ [] = grind (arith, common_steps) in
    let size : length c.args.payload.now + 5 ≡ length (entries_bytes group) = omega (arith, length-entry e, length-append (entry_bytes e) []) in
    let whole : c.push.new.self.items ≡ s.file.items ++ staged_bytes group =
    spelled s.file.items c.add_head.new.file.items c.add_entry.new.file.items c.push.new.self.items group (length c.args.payload.now + 5) size c.add_head.ensures.bytes
    (c.add_entry.ensures.bytes ∙ ap (λ (l : List ℕ). c.add_head.new.file.items ++ l) (sym (append-nil (entry_bytes e)))) last in
    let adds : Adds s.file.items c.add_entry.new.file.items s.places.items c.add_entry.new.places.items group =
    adds_anew c.add_head.new.file.items s.file.items c.add_entry.new.file.items s.places.items c.add_entry.new.places.items e c.add_entry.ensures.bytes c.add_entry.ensures.places in
    let i = c.self.invariant in
    let long : length c.push.new.self.items ≡ length s.file.items + length (staged_bytes group) = ap length whole ∙ length-append s.file.items (staged_bytes group) in
    let count = count_added s.file.items c.add_entry.new.file.items s.places.items c.add_entry.new.places.items group adds in
    record {
      held_there = omega (arith, count, i.held_there);
      mark_there = omega (arith, long, i.mark_there);
      held_within = held_within_all s.file.items c.add_entry.new.file.items c.push.new.self.items s.places.items c.add_entry.new.places.items s.held s.mark group i.held_there i.mark_there none no_flight i.held_within whole last adds;
      flight_within = flight_within_all s.file.items c.add_entry.new.file.items c.push.new.self.items s.places.items c.add_entry.new.places.items s.held s.mark group i.held_there i.mark_there none no_flight i.held_within whole last adds;
      places_room = omega (arith, count, i.places_room, entry_room, c.add_entry.ensures.places_room);
      file_room = omega (arith, long, size_of_staged group, i.file_room, entry_room, byte_room, c.add_head.ensures.room, c.add_entry.ensures.file_room, c.push.ensures.capacity);
    }

pub returns : goal.returns
returns c =
    let s = c.self.inside in
    let e : Entry = record { kind = c.args.kind; payload = c.args.payload.now } in
    let group : List Entry = e ∷ [] in
    let none : drop s.mark s.file.items ≡ [] = rw (← c.self.view_is) at c.requires.none in
    let no_flight : entries_at s.file.items (drop s.held s.places.items) ≡ [] = rw (← c.self.view_is) at c.requires.no_flight in
    let entry_room : 1 ≤ s.spare_entries = rw (← c.self.view_is) at c.requires.entry_room in
    let byte_room : length c.args.payload.now ≤ s.spare_bytes = rw (← c.self.view_is) at c.requires.byte_room in
    let last : c.push.new.self.items ≡ c.add_entry.new.file.items ++ 0 ∷ [] = grind (arith, common_steps) in
    let size : length c.args.payload.now + 5 ≡ length (entries_bytes group) = omega (arith, length-entry e, length-append (entry_bytes e) []) in
    let whole : c.push.new.self.items ≡ s.file.items ++ staged_bytes group =
    spelled s.file.items c.add_head.new.file.items c.add_entry.new.file.items c.push.new.self.items group (length c.args.payload.now + 5) size c.add_head.ensures.bytes
    (c.add_entry.ensures.bytes ∙ ap (λ (l : List ℕ). c.add_head.new.file.items ++ l) (sym (append-nil (entry_bytes e)))) last in
    let adds : Adds s.file.items c.add_entry.new.file.items s.places.items c.add_entry.new.places.items group =
    adds_anew c.add_head.new.file.items s.file.items c.add_entry.new.file.items s.places.items c.add_entry.new.places.items e c.add_entry.ensures.bytes c.add_entry.ensures.places in
    let i = c.self.invariant in
    rw (← c.self.view_is) (record {
      entries = staged_entries s.file.items c.add_entry.new.file.items c.push.new.self.items s.places.items c.add_entry.new.places.items s.held s.mark group i.held_there i.mark_there none no_flight i.held_within whole last adds;
      flight = staged_flight s.file.items c.add_entry.new.file.items c.push.new.self.items s.places.items c.add_entry.new.places.items s.held s.mark group i.held_there i.mark_there none no_flight i.held_within whole last adds;
      size = refl;
      staged = staged_is s.file.items c.add_entry.new.file.items c.push.new.self.items s.places.items c.add_entry.new.places.items s.held s.mark group i.held_there i.mark_there none no_flight i.held_within whole last adds;
      spare_entries = omega (arith, entry_room);
      spare_bytes = omega (arith, byte_room);
    })
