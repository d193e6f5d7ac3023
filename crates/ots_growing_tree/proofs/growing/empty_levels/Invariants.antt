use Rattle.std.proofs.Common.{◌≡◌, [], length}
use Rattle.std.specs.List.{All}
use Rattle.ots_growing_tree.proofs.growing.empty_levels.Given as goal

-- As many levels as turns, each without a node.
abbrev pub invariant-loop : goal.invariant-loop
invariant-loop l = record {
  count : length l.levels.items ≡ l.counter;
  empty : All (λ level. level.items ≡ []) l.levels.items;
}
