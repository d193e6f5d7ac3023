use Rattle.std.proofs.Common.{◌∙◌, length, arith}
use Rattle.std.proofs.lemmas.List.Sorted.{length_permutation}
use Rattle.ots_store.proofs.Placed.{are_moved}
use Rattle.ots_store.proofs.index.merge.Goals as goal

pub loop-left-preserved : goal.loop-left-preserved
loop-left-preserved c =
    let same = length_permutation c.loop-left.places c.sink-high.new.places c.sink-high.ensures.moves in
    record {
      count = same ∙ c.loop-left.invariant.count;
      there = omega (arith, same, c.sink-high.ensures.bound, c.loop-left.invariant.there);
      are = are_moved (length c.args.places.now) c.loop-left.places c.sink-high.new.places c.loop-left.invariant.are c.sink-high.ensures.moves;
      parted = c.sink-high.ensures.parted;
    }
