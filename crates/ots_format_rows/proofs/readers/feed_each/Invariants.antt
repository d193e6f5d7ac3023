use Rattle.std.proofs.Common.{◌≤◌}
use Rattle.ots_format_rows.proofs.Came.{MayCome}
use Rattle.ots_format_rows.proofs.readers.feed_each.Given as goal

abbrev pub invariant-loop-part : goal.invariant-loop-part
invariant-loop-part l =
    (goal.iterator-loop-part).can_next l.part-iterator ×
    (goal.iterator-loop-part).is_finite l.part-iterator ×
    (l.left ≤ 4194304) ×
    MayCome l.reader.progress l.left
