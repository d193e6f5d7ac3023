use Rattle.std.proofs.Common.{arith}
use Rattle.ots_archive_taken.proofs.GivenTrees.{got_more}
use Rattle.ots_archive_taken.proofs.given.trees_got.Goals as goal

pub loop-i-preserved : goal.loop-i-preserved
loop-i-preserved c =
    got_more c.args.replies.now _ c.args.pairs.now c.loop-i.i c.loop-i.trees.items _ c.in_ok-tree_at.field-0 (let test = c.loop-i-test.true in let count = c.len-i-end.ensures in omega (arith, test, count))
    c.loop-i.invariant c.in_ok-tree_at.ensures c.in_ok-push.ensures.items
