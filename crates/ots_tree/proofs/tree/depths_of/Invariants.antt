use Rattle.std.proofs.Common.{take, drop}
use Rattle.std.specs.List.{AllByRecursion}
use Rattle.ots_tree.specs.Wire.{IsToken}
use Rattle.ots_tree.specs.Walk.{begun, open_at}
use Rattle.ots_tree.specs.Built.{before, Left}
use Rattle.ots_tree.proofs.tree.depths_of.Given as goal

-- The walk over the tokens that are left gives the numbers that are left.
abbrev pub invariant-loop-token : goal.invariant-loop-token
invariant-loop-token l = record {
  left : Left (before (begun 0) l.tokens) l.depths.items (open_at l.walk) (drop l.token-index l.tokens);
  limits : AllByRecursion IsToken (take l.token-index l.tokens);
}
