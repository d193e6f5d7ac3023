use Rattle.std.proofs.Common.{take}
use Rattle.ots_archive_taken.specs.Given.{AreTreesFor}
use Rattle.ots_sheet.specs.declared.request.Kind.TheVariants.{Get}
use Rattle.ots_archive_taken.proofs.given.trees_got.Given as goal

-- Those of the pairs so far are found.
abbrev pub invariant-loop-i : goal.invariant-loop-i
invariant-loop-i l = AreTreesFor l.replies Get (take l.i l.pairs) l.trees.items
