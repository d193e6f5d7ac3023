use Rattle.std.proofs.Common.{◌∙◌, ap, arith}
use Rattle.ots_archive_taken.proofs.GivenTrees.{none_good, some_good}
use Rattle.ots_archive_taken.proofs.given.trees_posted.Goals.{in-Some+in_ok-push, in_default}
use Rattle.ots_archive_taken.proofs.given.trees_posted.Goals as goal

pub loop-i-preserved : goal.loop-i-preserved
loop-i-preserved c = elim c.match-branch-2.branch [
  | in-Some+in_ok-push w ↦
      some_good c.args.replies.now _ c.args.pairs.now c.loop-i.i c.loop-i.trees.items _ w.in-Some.tree c.in_ok-tree.field-0
      (let test = c.loop-i-test.true in let count = c.len-i-end.ensures in omega (arith, test, count)) c.loop-i.invariant w.in-Some.is c.in_ok-tree.ensures
      (ap (λ z. z.items) w.trees-is ∙ w.in_ok-push.ensures.items)
  | in_default w ↦
      none_good c.args.replies.now _ c.args.pairs.now c.loop-i.i c.loop-i.trees.items _ c.in_ok-tree.field-0
      (let test = c.loop-i-test.true in let count = c.len-i-end.ensures in omega (arith, test, count)) c.loop-i.invariant w.in_default.is c.in_ok-tree.ensures
      (ap (λ z. z.items) w.trees-is)
]
