use Rattle.std.proofs.Common.{arith}
use Rattle.std.proofs.lemmas.Grind.{common_steps}
use Rattle.ots_tree.specs.Wire.{IsToken}
use Rattle.ots_tree.specs.Walk.{begun, open_at}
use Rattle.ots_tree.specs.Built.{before}
use Rattle.ots_tree.proofs.DepthWalk.{nothing_noted, one_noted, walk_kept, all_noted, all_taken}
use Rattle.ots_tree.proofs.tree.depths_of.Goals as goal

pub returns : goal.returns
returns c =
    let s = c.loop-token in
    let tokens = c.args.tokens.now in
    walk_kept tokens s.depths.items c.requires
    (all_noted (before (begun 0) tokens) s.depths.items (open_at s.walk) tokens s.token-index (omega arith) s.invariant.left)
    (all_taken IsToken tokens s.token-index (omega arith) s.invariant.limits)

pub loop-token-init : goal.loop-token-init
loop-token-init c = record {
  left = nothing_noted c.in_ok-depths.depths.items (open_at c.begin-walk.result) c.args.tokens.now c.in_ok-depths.ensures.items c.begin-walk.ensures c.requires;
  limits = tt;
}

pub loop-token-preserved : goal.loop-token-preserved
loop-token-preserved c =
    let s = c.loop-token in
    let ts = c.args.tokens.now in
    record {
      left = one_noted (before (begun 0) ts) s.depths.items c.push.new.self.items c.last.result s.walk c.count.new.walk c.in_ok-count.field-0 ts s.token-index c.token-item.result (omega arith)
          c.token-item.is s.invariant.left c.in_ok-push.ensures.items c.last.ensures c.in_ok-count.ensures.step;
      limits = grind (arith, common_steps);
    }
