use Rattle.std.proofs.Common.{rules, arith}
use Rattle.ots_tree.proofs.Numbered.{kept_length}
use Rattle.ots_tree.proofs.PendingPaths.{few_ended, walk_goes, walk_ends}
use Rattle.ots_tree.proofs.pending.pending_of.Goals as goal

pub bounds-depths-at : goal.bounds-depths-at
bounds-depths-at c = omega (arith, kept_length _ _ c.requires)

pub loop-at-preserved : goal.loop-at-preserved
loop-at-preserved c = record {
  few = few_ended _ _ _ _ c.paths_after-path.ensures c.loop-at.invariant.few;
  walk = walk_goes c.args.tokens.now c.args.depths.now c.loop-at.at c.loop-at.path c.paths_after-path.result _ c.loop-at.messages c.follow.new.self _ _ _
      (kept_length _ _ c.requires) c.loop-at-test.true c.index-tokens-at.is (search rules) c.paths_after-path.ensures c.in_ok-follow.ensures c.loop-at.invariant.walk;
}

pub returns : goal.returns
returns c = walk_ends c.args.tokens.now c.args.depths.now c.loop-at.at c.loop-at.path c.loop-at.messages c.loop-at.found.items _ (kept_length _ _ c.requires) c.loop-at-test.false c.loop-at.invariant.walk
