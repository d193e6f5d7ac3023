use Rattle.std.proofs.Common.{◌≡◌, ◌++◌, ◌∷◌, [], arith}
use Rattle.std.proofs.lemmas.Grind.{common_steps}
use Rattle.std.proofs.lemmas.List.Elements.{All-push}
use Rattle.ots_disk.specs.Reserved.{IsSparePiece}
use Rattle.ots_disk.proofs.spare_pieces.spare.Goals as goal

pub loop-preserved : goal.loop-preserved
loop-preserved c =
    let piece = c.in_ok-with_capacity.field-0 in
    let pushed : c.push.new.self.items ≡ c.loop.pieces.items ++ piece ∷ [] = grind (arith, common_steps) in
    record {
      count = grind (arith, common_steps);
      spare = rw pushed (All-push (IsSparePiece c.args.room) _ _ c.loop.invariant.spare record {
        empty = c.in_ok-with_capacity.ensures.items;
        reserved = c.in_ok-with_capacity.ensures.capacity;
      });
    }
