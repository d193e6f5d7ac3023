use Rattle.std.proofs.Common.{◌≤◌}
use Rattle.ots_format_rows.proofs.Came.{MayHandOut}
use Rattle.ots_format_rows.proofs.readers.next_each.Given as goal

abbrev pub invariant-loop-part : goal.invariant-loop-part
invariant-loop-part l =
    (goal.iterator-loop-part).can_next l.part-iterator ×
    (goal.iterator-loop-part).is_finite l.part-iterator ×
    (l.left ≤ 4194304) ×
    MayHandOut l.reader l.left
