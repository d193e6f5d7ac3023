use Rattle.std.proofs.Common.{◌≡◌, ◌++◌, ◌∷◌, [], arith}
use Rattle.std.proofs.lemmas.Grind.{common_steps}
use Rattle.ots_memory.specs.Entries.{IsSpare}
use Rattle.ots_memory.proofs.EntryRoom.{All-front, All-last}
use Rattle.ots_memory.proofs.entries.add_entry.Goals as goal

pub returns-clause-added : goal.returns-clause-added
returns-clause-added c =
    let popped : c.args.spare.now.items ≡ c.pop.new.self.items ++ c.unwrap-entry.result ∷ [] = grind (arith, common_steps) in
    let ready : IsSpare c.args.room.name_length c.args.room.bytes c.unwrap-entry.result =
    All-last (IsSpare c.args.room.name_length c.args.room.bytes) _ _ (rw popped at c.requires.spare) in
    record {
      entry = record { name = c.push_str.new.self; bytes = c.extend_from_slice.new.self };
      added = grind (arith, common_steps);
      named = grind (arith, common_steps, ready.no_name);
      holds = grind (arith, common_steps, ready.no_bytes);
      within = record { fits = grind (arith, common_steps, ready.no_bytes); bytes_room = grind (arith, common_steps) };
    }

pub returns-clause-spare : goal.returns-clause-spare
returns-clause-spare c =
    let popped : c.args.spare.now.items ≡ c.pop.new.self.items ++ c.unwrap-entry.result ∷ [] = grind (arith, common_steps) in
    All-front (IsSpare c.args.room.name_length c.args.room.bytes) _ _ (rw popped at c.requires.spare)
