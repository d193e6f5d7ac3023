use Rattle.std.proofs.Common.{◌≡◌, ◌-◌, ℕ, drop, length, subst, sym, ◌∙◌, ap, arith, length-drop}
use Rattle.std.proofs.lemmas.Grind.{common_steps}
use Rattle.std.proofs.lemmas.List.{take_all, drop_all}
use Rattle.std.specs.Option.{option_to_list}
use Rattle.ots_journal.specs.Stored.{entries_at, staged_bytes, EndsBy}
use Rattle.std.specs.List.{AllByRecursion}
use Rattle.ots_journal.proofs.Staging.{kept_entries, all_within, size_of_staged}
use Rattle.ots_journal.proofs.stored.Stored.keep.Goals as goal

pub returns-clause-entries : goal.returns-clause-entries
returns-clause-entries c =
    let s = c.self.inside in
    let staged : drop s.mark s.file.items ≡ staged_bytes (entries_at s.file.items (drop s.held s.places.items)) = rw (← c.self.view_is) at c.requires in
    let long = ap length staged ∙ size_of_staged (entries_at s.file.items (drop s.held s.places.items)) in
    let one : length c.pop.new.self.items ≡ length s.file.items - 1 = grind (arith, common_steps, c.pop.ensures.len, c.pop.ensures.cases) in
    let count : c.len-self-inside.result ≡ length s.places.items = grind (arith, common_steps) in
    rw (← c.self.view_is) (kept_entries c.pop.new.self.items (option_to_list c.pop.result) s.file.items s.places.items s.held s.mark c.len-self-inside.result c.pop.ensures.items c.self.invariant.held_there count
    (omega (arith, one, long, length-drop s.mark s.file.items)) one c.self.invariant.held_within c.self.invariant.flight_within)

pub invariant_of-self : goal.invariant_of-self
invariant_of-self c =
    let s = c.self.inside in
    let staged : drop s.mark s.file.items ≡ staged_bytes (entries_at s.file.items (drop s.held s.places.items)) = rw (← c.self.view_is) at c.requires in
    let long = ap length staged ∙ size_of_staged (entries_at s.file.items (drop s.held s.places.items)) in
    let one : length c.pop.new.self.items ≡ length s.file.items - 1 = grind (arith, common_steps, c.pop.ensures.len, c.pop.ensures.cases) in
    let count : c.len-self-inside.result ≡ length s.places.items = grind (arith, common_steps) in
    let size : c.len-self-inside-2.result ≡ length c.pop.new.self.items = grind (arith, common_steps) in
    let within : AllByRecursion (EndsBy c.len-self-inside-2.result) s.places.items =
    all_within s.places.items s.held s.mark c.len-self-inside-2.result (omega (arith, size, one, long, length-drop s.mark s.file.items)) c.self.invariant.held_within
    (subst (λ (n : ℕ). AllByRecursion (EndsBy n) (drop s.held s.places.items)) (sym (size ∙ one)) c.self.invariant.flight_within) in
    record {
      held_there = omega (arith, count);
      mark_there = omega (arith, size);
      held_within = rw (take_all c.len-self-inside.result s.places.items (omega (arith, count))) within;
      flight_within = rw (drop_all c.len-self-inside.result s.places.items (omega (arith, count))) tt;
      places_room = c.self.invariant.places_room;
      file_room = grind (arith, common_steps, one, c.self.invariant.file_room);
    }
