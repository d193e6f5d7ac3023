use Rattle.std.proofs.Common.{◌≡◌, ◌++◌, ◌∷◌, [], arith}
use Rattle.std.proofs.lemmas.Grind.{common_steps}
use Rattle.ots_memory.specs.Entries.{IsSpare}
use Rattle.std.proofs.lemmas.List.Elements.{All-push}
use Rattle.ots_memory.proofs.entries.spare_entries.Goals as goal

pub loop-preserved : goal.loop-preserved
loop-preserved c =
    let name = c.in_ok-with_capacity.field-0 in
    let bytes = c.in_ok-with_capacity-2.field-0 in
    let pushed : c.push.new.self.items ≡ c.loop.spare.items ++ record { name = name; bytes = bytes } ∷ [] = grind (arith, common_steps) in
    record {
      count = grind (arith, common_steps);
      spare = rw pushed (All-push (IsSpare c.args.room.name_length c.args.room.bytes) _ _ c.loop.invariant.spare record {
        no_name = c.in_ok-with_capacity.ensures.bytes;
        no_bytes = c.in_ok-with_capacity-2.ensures.items;
        name_room = c.in_ok-with_capacity.ensures.capacity;
        bytes_room = c.in_ok-with_capacity-2.ensures.capacity;
      });
    }
