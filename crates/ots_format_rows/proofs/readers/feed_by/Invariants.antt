use Rattle.std.proofs.Common.{◌-◌, length}
use Rattle.ots_format_rows.proofs.Came.{Came}
use Rattle.ots_format_rows.proofs.readers.feed_by.Given as goal

abbrev pub invariant-loop-came : goal.invariant-loop-came
invariant-loop-came l = Came l.reader.progress l.came

abbrev pub decreases-loop-came : goal.decreases-loop-came
decreases-loop-came l = length l.bytes - l.came
