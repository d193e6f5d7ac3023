use Rattle.std.proofs.Common.{◌≡◌, length, drop}
use Rattle.ots_tree.specs.Kept.{beside}
use Rattle.ots_tree.specs.Passed.{all_passed}
use Rattle.ots_tree.proofs.sound.all_pass.Given as goal

-- The tokens that are left pass exactly where all do.
abbrev pub invariant-loop-at : goal.invariant-loop-at
invariant-loop-at l = record {
  room : length l.lengths ≡ 256;
  walk : all_passed l.above (drop l.at (beside l.tokens l.depths)) l.lengths ≡ all_passed l.above (beside l.tokens l.depths) l.fn.lengths;
}
