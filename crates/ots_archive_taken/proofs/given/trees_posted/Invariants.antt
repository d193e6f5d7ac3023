use Rattle.std.proofs.Common.{take}
use Rattle.ots_archive_taken.specs.Given.{AreGoodTrees}
use Rattle.ots_sheet.specs.declared.request.Kind.TheVariants.{Post}
use Rattle.ots_archive_taken.proofs.given.trees_posted.Given as goal

-- Those of the pairs so far are found.
abbrev pub invariant-loop-i : goal.invariant-loop-i
invariant-loop-i l = AreGoodTrees l.replies Post (take l.i l.pairs) l.trees.items
