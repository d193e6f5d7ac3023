use Rattle.std.proofs.Common.{◌≡◌, ◌<◌, ◌≤◌, ◌+◌, ◌++◌, ◌∷◌, [], drop, length, refl, ◌∙◌, ap, arith, length-append, length-drop, vec_capacity, ◌^◌}
use Rattle.std.proofs.lemmas.Grind.{common_steps}
use Rattle.ots_journal.specs.Image.{entries_bytes}
use Rattle.ots_journal.specs.Stored.{entries_at, Adds, staged_bytes}
use Rattle.ots_journal.proofs.Staging.{with_head, none_within, all_within, size_of_entries, size_of_staged, spelled, count_added, staged_entries, staged_flight, staged_is, held_within_all, flight_within_all}
use Rattle.ots_journal.proofs.stored.Stored.stage.Goals as goal

pub add_entries-requires-clause-file_room : goal.add_entries-requires-clause-file_room
add_entries-requires-clause-file_room c =
    let s = c.self.inside in
    let long = with_head s.file.items c.add_head.new.file.items (length c.args.entries.now) c.args.size c.add_head.ensures.bytes in
    let entry_room : length c.args.entries.now ≤ s.spare_entries = rw (← c.self.view_is) at c.requires.entry_room in
    let byte_room : c.args.bytes ≤ s.spare_bytes = rw (← c.self.view_is) at c.requires.byte_room in
    omega (arith, long, entry_room, byte_room, c.requires.bytes_is, size_of_entries c.args.entries.now, c.requires.fits.some, c.self.invariant.file_room, c.add_head.ensures.room)

pub add_entries-requires-clause-small : goal.add_entries-requires-clause-small
add_entries-requires-clause-small c =
    let s = c.self.inside in
    let long = with_head s.file.items c.add_head.new.file.items (length c.args.entries.now) c.args.size c.add_head.ensures.bytes in
    let none : drop s.mark s.file.items ≡ [] = rw (← c.self.view_is) at c.requires.none in
    let small : s.mark + 8 + c.args.size < 2 ^ 32 = rw (← c.self.view_is) at c.requires.small in
    omega (arith, long, small, c.requires.size_is, ap length none, length-drop s.mark s.file.items, c.self.invariant.mark_there)

pub add_entries-requires-clause-within : goal.add_entries-requires-clause-within
add_entries-requires-clause-within c =
    let s = c.self.inside in
    let long = with_head s.file.items c.add_head.new.file.items (length c.args.entries.now) c.args.size c.add_head.ensures.bytes in
    let no_flight : entries_at s.file.items (drop s.held s.places.items) ≡ [] = rw (← c.self.view_is) at c.requires.no_flight in
    all_within s.places.items s.held s.mark (length c.add_head.new.file.items) (omega (arith, long, c.self.invariant.mark_there)) c.self.invariant.held_within
    (none_within s.file.items (drop s.held s.places.items) (length c.add_head.new.file.items) no_flight)

pub unwrap-requires : goal.unwrap-requires
unwrap-requires c =
    let s = c.self.inside in
    let long = with_head s.file.items c.add_head.new.file.items (length c.args.entries.now) c.args.size c.add_head.ensures.bytes in
    let longer : length c.add_entries.new.file.items ≡ length c.add_head.new.file.items + length (entries_bytes c.args.entries.now) = ap length c.add_entries.ensures.bytes ∙ length-append c.add_head.new.file.items (entries_bytes c.args.entries.now) in
    let entry_room : length c.args.entries.now ≤ s.spare_entries = rw (← c.self.view_is) at c.requires.entry_room in
    let byte_room : c.args.bytes ≤ s.spare_bytes = rw (← c.self.view_is) at c.requires.byte_room in
    let room : length c.add_entries.new.file.items < vec_capacity c.add_entries.new.file =
    omega (arith, long, longer, entry_room, byte_room, c.requires.bytes_is, size_of_entries c.args.entries.now, c.requires.fits.some, c.self.invariant.file_room, c.add_head.ensures.room, c.add_entries.ensures.file_room) in
    grind (arith, common_steps, room, c.push.ensures.succeeds)

pub invariant_of-self : goal.invariant_of-self
invariant_of-self c =
    let s = c.self.inside in
    let group = c.args.entries.now in
    let none : drop s.mark s.file.items ≡ [] = rw (← c.self.view_is) at c.requires.none in
    let no_flight : entries_at s.file.items (drop s.held s.places.items) ≡ [] = rw (← c.self.view_is) at c.requires.no_flight in
    let entry_room : length group ≤ s.spare_entries = rw (← c.self.view_is) at c.requires.entry_room in
    let byte_room : c.args.bytes ≤ s.spare_bytes = rw (← c.self.view_is) at c.requires.byte_room in
    let last : c.push.new.self.items ≡ c.add_entries.new.file.items ++ 0 ∷ [] = grind (arith, common_steps) in
    let whole : c.push.new.self.items ≡ s.file.items ++ staged_bytes group = spelled s.file.items c.add_head.new.file.items c.add_entries.new.file.items c.push.new.self.items group c.args.size c.requires.size_is c.add_head.ensures.bytes c.add_entries.ensures.bytes last in
    let adds : Adds s.file.items c.add_entries.new.file.items s.places.items c.add_entries.new.places.items group = record {
      places = c.add_entries.ensures.entries.places;
      added = c.add_entries.ensures.entries.added;
      are = c.add_entries.ensures.entries.are;
      within = c.add_entries.ensures.entries.within;
    } in
    let i = c.self.invariant in
    let long : length c.push.new.self.items ≡ length s.file.items + length (staged_bytes group) = ap length whole ∙ length-append s.file.items (staged_bytes group) in
    let count = count_added s.file.items c.add_entries.new.file.items s.places.items c.add_entries.new.places.items group adds in
    record {
      held_there = omega (arith, count, i.held_there);
      mark_there = omega (arith, long, i.mark_there);
      held_within = held_within_all s.file.items c.add_entries.new.file.items c.push.new.self.items s.places.items c.add_entries.new.places.items s.held s.mark group i.held_there i.mark_there none no_flight i.held_within whole last adds;
      flight_within = flight_within_all s.file.items c.add_entries.new.file.items c.push.new.self.items s.places.items c.add_entries.new.places.items s.held s.mark group i.held_there i.mark_there none no_flight i.held_within whole last adds;
      places_room = omega (arith, count, i.places_room, entry_room, c.add_entries.ensures.places_room);
      file_room = omega (arith, long, size_of_staged group, i.file_room, entry_room, byte_room, c.requires.bytes_is, c.requires.fits.some, c.add_head.ensures.room, c.add_entries.ensures.file_room, c.push.ensures.capacity);
    }

pub returns : goal.returns
returns c =
    let s = c.self.inside in
    let group = c.args.entries.now in
    let none : drop s.mark s.file.items ≡ [] = rw (← c.self.view_is) at c.requires.none in
    let no_flight : entries_at s.file.items (drop s.held s.places.items) ≡ [] = rw (← c.self.view_is) at c.requires.no_flight in
    let entry_room : length group ≤ s.spare_entries = rw (← c.self.view_is) at c.requires.entry_room in
    let byte_room : c.args.bytes ≤ s.spare_bytes = rw (← c.self.view_is) at c.requires.byte_room in
    let last : c.push.new.self.items ≡ c.add_entries.new.file.items ++ 0 ∷ [] = grind (arith, common_steps) in
    let whole : c.push.new.self.items ≡ s.file.items ++ staged_bytes group = spelled s.file.items c.add_head.new.file.items c.add_entries.new.file.items c.push.new.self.items group c.args.size c.requires.size_is c.add_head.ensures.bytes c.add_entries.ensures.bytes last in
    let adds : Adds s.file.items c.add_entries.new.file.items s.places.items c.add_entries.new.places.items group = record {
      places = c.add_entries.ensures.entries.places;
      added = c.add_entries.ensures.entries.added;
      are = c.add_entries.ensures.entries.are;
      within = c.add_entries.ensures.entries.within;
    } in
    let i = c.self.invariant in
    rw (← c.self.view_is) (record {
      entries = staged_entries s.file.items c.add_entries.new.file.items c.push.new.self.items s.places.items c.add_entries.new.places.items s.held s.mark group i.held_there i.mark_there none no_flight i.held_within whole last adds;
      flight = staged_flight s.file.items c.add_entries.new.file.items c.push.new.self.items s.places.items c.add_entries.new.places.items s.held s.mark group i.held_there i.mark_there none no_flight i.held_within whole last adds;
      size = refl;
      staged = staged_is s.file.items c.add_entries.new.file.items c.push.new.self.items s.places.items c.add_entries.new.places.items s.held s.mark group i.held_there i.mark_there none no_flight i.held_within whole last adds;
      spare_entries = omega (arith, entry_room);
      spare_bytes = omega (arith, byte_room, c.requires.bytes_is);
    })
