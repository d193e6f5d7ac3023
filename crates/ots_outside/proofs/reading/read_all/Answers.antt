use Rattle.std.proofs.Common.{◌≡◌, ◌++◌, length, take, drop, rules, arith}
use Rattle.std.proofs.lemmas.Grind.{common_steps}
use Rattle.std.proofs.lemmas.List.{take_at}
use Rattle.ots_outside.proofs.Inputs.{filled_more}
use Rattle.ots_outside.proofs.reading.read_all.Goals as goal

pub loop-filled-preserved : goal.loop-filled-preserved
loop-filled-preserved g c =
    let room = c.make_room.new.bytes in
    let read = c.read_after.new.bytes in
    let whole : take room.len (read ++ drop (length read) room.items) ≡ read = take_at read _ _ (grind (arith, common_steps)) in
    let prefix : take c.loop-filled.filled read ≡ take c.loop-filled.filled c.loop-filled.bytes.items = grind (arith, common_steps) in
    record {
      in_range = rw whole (grind (arith, common_steps));
      fits = rw whole (grind (arith, common_steps));
      gave = rw whole (filled_more _ _ _ _ _ _ _ prefix c.loop-filled.invariant.gave c.in_ok-count.ensures.bytes.0);
      later = search rules;
      same = search rules;
    }
