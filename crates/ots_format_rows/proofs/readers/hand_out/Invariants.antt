use Rattle.std.proofs.Common.{◌-◌, length}
use Rattle.ots_format_rows.proofs.Came.{HandsOut}
use Rattle.ots_format_rows.proofs.readers.hand_out.Given as goal

abbrev pub invariant-loop-came : goal.invariant-loop-came
invariant-loop-came l = HandsOut l.reader l.came

abbrev pub decreases-loop-came : goal.decreases-loop-came
decreases-loop-came l = length l.bytes - l.came
