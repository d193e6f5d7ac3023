use Rattle.std.proofs.Common.{◌≡◌, ◌++◌, ◌∷◌, [], arith, refl, Some}
use Rattle.std.proofs.lemmas.Grind.{common_steps}
use Rattle.std.specs.Prelude.{string_bytes}
use Rattle.ots_memory.specs.Entries.{IsSpare}
use Rattle.ots_memory.proofs.EntryRoom.{All-front, All-last}
use Rattle.ots_memory.proofs.conversations.add_conversation.Goals as goal

pub returns-clause-added : goal.returns-clause-added
returns-clause-added c =
    let popped : c.args.spare.now.items ≡ c.pop.new.self.items ++ c.unwrap-memory.result ∷ [] = grind (arith, common_steps) in
    let ready : IsSpare c.args.room.host_length c.args.room.bytes c.unwrap-memory.result =
    All-last (IsSpare c.args.room.host_length c.args.room.bytes) _ _ (rw popped at c.requires.spare) in
    let host : string_bytes c.push_str.new.self ≡ c.args.host.now = grind (arith, common_steps, ready.no_name) in
    let none = ready.no_bytes in
    record {
      conversation = record { host = c.push_str.new.self; port = c.args.port; sent = c.unwrap-memory.result.bytes; reply = Some c.args.reply };
      added = grind (arith, common_steps);
      sent = λ i. record { host = host i; port = c.args.port; bytes = none i };
      has = refl;
      within = record { fits = grind (arith, common_steps, none); bytes_room = ready.bytes_room };
    }

pub returns-clause-spare : goal.returns-clause-spare
returns-clause-spare c =
    let popped : c.args.spare.now.items ≡ c.pop.new.self.items ++ c.unwrap-memory.result ∷ [] = grind (arith, common_steps) in
    All-front (IsSpare c.args.room.host_length c.args.room.bytes) _ _ (rw popped at c.requires.spare)
