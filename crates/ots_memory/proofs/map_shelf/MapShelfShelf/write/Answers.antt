use Rattle.std.proofs.Common.{◌≡◌, ◌≤◌, ◌+◌, length, take, ap, Some, refl, sym, subst, ◌∙◌, arith}
use Rattle.std.proofs.lemmas.Grind.{common_steps}
use Rattle.std.proofs.lemmas.List.{get_or_read}
use Rattle.std.proofs.lemmas.List.Elements.{All-set, All-get_or}
use Rattle.ots_memory.specs.Entries.{IsWithin}
use Rattle.ots_memory.proofs.ShelfCalls.{written_at, written_name, wrote}
use Rattle.ots_memory.proofs.map_shelf.MapShelfShelf.write.Goals as goal

pub returns-then-is_append_refused-clause-failed : goal.returns-then-is_append_refused-clause-failed
returns-then-is_append_refused-clause-failed c =
    let s = c.args.self.now in
    let here = written_at s.entries.items s.slots.items s.opened_places.items c.args.slot.0 c.in-Writing.entry c.index.result.now c.requires c.index.ensures c.in-Writing.is s.consistent in
    let name = written_name s.entries.items s.slots.items s.opened_places.items c.args.slot.0 c.in-Writing.entry c.index-2.result.now here c.index-2.ensures s.consistent in
    let held : c.len-held.result ≡ length c.index-2.result.now.bytes.items = grind (arith, common_steps) in
    rw (name, ← held, ← c.count-listed.ensures.listed) (sym c.if-is_append_refused.true ∙ c.is_append_refused.ensures.refused)

pub returns-clause-failed : goal.returns-clause-failed
returns-clause-failed c =
    let s = c.args.self.now in
    let here = written_at s.entries.items s.slots.items s.opened_places.items c.args.slot.0 c.in-Writing.entry c.index.result.now c.requires c.index.ensures c.in-Writing.is s.consistent in
    let name = written_name s.entries.items s.slots.items s.opened_places.items c.args.slot.0 c.in-Writing.entry c.index-2.result.now here c.index-2.ensures s.consistent in
    let held : c.len-held.result ≡ length c.index-2.result.now.bytes.items = grind (arith, common_steps) in
    rw (name, ← held, ← c.count-listed.ensures.listed) (sym c.if-is_append_refused.false ∙ c.is_append_refused.ensures.refused)

pub invariant_of-self-2 : goal.invariant_of-self-2
invariant_of-self-2 c =
    let s = c.args.self.now in
    let here = written_at s.entries.items s.slots.items s.opened_places.items c.args.slot.0 c.in-Writing.entry c.index.result.now c.requires c.index.ensures c.in-Writing.is s.consistent in
    let done = wrote s.entries.items s.slots.items s.opened_places.items c.args.slot.0 c.in-Writing.entry c.index_mut.result.now
    record { name = c.index_mut.result.now.name; bytes = c.extend_from_slice.new.self } c.args.piece.now
    here c.index_mut.ensures.value refl (grind (arith, common_steps)) s.consistent in
    let same : c.index-2.result.now ≡ c.index_mut.result.now =
    get_or_read s.entries.items c.in-Writing.entry c.index-2.result.now here.below c.index-2.ensures c.index_mut.result.now ∙ sym c.index_mut.ensures.value in
    let was : IsWithin s.room.bytes c.index_mut.result.now =
    subst (IsWithin s.room.bytes) (sym c.index_mut.ensures.value) (All-get_or (IsWithin s.room.bytes) s.entries.items c.in-Writing.entry c.index_mut.result.now here.below s.memory.all_within) in
    let held : c.len-held.result ≡ length c.index_mut.result.now.bytes.items = rw (← same) (grind (arith, common_steps)) in
    let within : c.len-held.result + length c.args.piece.now ≤ s.room.bytes = c.is_append_refused.ensures.fits c.if-is_append_refused.false in
    record {
      consistent = done.consistent;
      memory = record {
        all_within = All-set (IsWithin s.room.bytes) s.entries.items c.in-Writing.entry _ (record { fits = grind (arith, common_steps, within, held); bytes_room = grind (arith, common_steps, was.bytes_room) }) s.memory.all_within;
        all_spare = s.memory.all_spare;
        names_left = s.memory.names_left;
        entries_room = grind (arith, common_steps);
        states_room = s.memory.states_room;
        opened_room = s.memory.opened_room;
        numbers_fit = s.memory.numbers_fit;
      };
    }

pub returns-clause-bytes : goal.returns-clause-bytes
returns-clause-bytes c =
    let s = c.args.self.now in
    let here = written_at s.entries.items s.slots.items s.opened_places.items c.args.slot.0 c.in-Writing.entry c.index.result.now c.requires c.index.ensures c.in-Writing.is s.consistent in
    let done = wrote s.entries.items s.slots.items s.opened_places.items c.args.slot.0 c.in-Writing.entry c.index_mut.result.now
    record { name = c.index_mut.result.now.name; bytes = c.extend_from_slice.new.self } c.args.piece.now
    here c.index_mut.ensures.value refl (grind (arith, common_steps)) s.consistent in
    let all : take (length c.args.piece.now) c.args.piece.now ≡ c.args.piece.now = grind (arith, common_steps) in
    rw all (ap Some done.names)

pub returns-clause-others : goal.returns-clause-others
returns-clause-others c =
    let s = c.args.self.now in
    let here = written_at s.entries.items s.slots.items s.opened_places.items c.args.slot.0 c.in-Writing.entry c.index.result.now c.requires c.index.ensures c.in-Writing.is s.consistent in
    let done = wrote s.entries.items s.slots.items s.opened_places.items c.args.slot.0 c.in-Writing.entry c.index_mut.result.now
    record { name = c.index_mut.result.now.name; bytes = c.extend_from_slice.new.self } c.args.piece.now
    here c.index_mut.ensures.value refl (grind (arith, common_steps)) s.consistent in
    record { opened = ap Some done.opened_stay; short = refl; slots = done.slots_stay }
