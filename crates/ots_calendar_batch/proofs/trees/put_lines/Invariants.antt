use Rattle.std.proofs.Common.{take}
use Rattle.ots_printer.specs.Printing.{Puts}
use Rattle.ots_calendar_batch.specs.Trees.{trees_lines}
use Rattle.ots_calendar_batch.proofs.trees.put_lines.Given as goal

-- The lines of the trees up to here were put.
abbrev pub invariant-loop-tree : goal.invariant-loop-tree
invariant-loop-tree g l = Puts g.K.Sink.taken g.K.Sink.faults g.K.Sink.same (trees_lines l.trees.index (take l.tree-index l.trees.trees.items)) l.fn.out l.out
