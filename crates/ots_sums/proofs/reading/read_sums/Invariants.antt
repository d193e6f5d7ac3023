use Rattle.std.proofs.Common.{◌≤◌, ◌-◌, length}
use Rattle.ots_sums.specs.declared.reading.TheConstants.{MAX_LINES}
use Rattle.ots_sums.specs.inner.Taken.{CameTo}
use Rattle.ots_sums.proofs.reading.read_sums.Given as goal

-- What was given is the lines of the sums.
abbrev pub invariant-loop-sums : goal.invariant-loop-sums
invariant-loop-sums g l =
    let left = g.S.Source.left in
    let faults = g.S.Source.faults in
    record {
      came : CameTo (left l.fn.source) (left l.source) l.sums l.reader;
      later : faults l.fn.source ≤ faults l.source;
      same : g.S.Source.same l.fn.source l.source;
    }

-- Each turn takes a line.
abbrev pub decreases-loop-sums : goal.decreases-loop-sums
decreases-loop-sums g l = MAX_LINES - length l.sums
