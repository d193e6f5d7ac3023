use Rattle.std.proofs.Common.{◌≤◌, ◌-◌, length, take}
use Rattle.ots_outside.specs.Streams.{Takes}
use Rattle.ots_outside.proofs.writing.write_all.Given as goal

-- The bytes up to here are written.
abbrev pub invariant-loop-at : goal.invariant-loop-at
invariant-loop-at g l =
    let taken = g.K.Sink.taken in
    let faults = g.K.Sink.faults in
    record {
      in_range : l.at ≤ length l.bytes;
      written : Takes (taken l.fn.sink) (taken l.sink) (take l.at l.bytes);
      later : faults l.fn.sink ≤ faults l.sink;
      same : g.K.Sink.same l.fn.sink l.sink;
    }

abbrev pub decreases-loop-at : goal.decreases-loop-at
decreases-loop-at g l = length l.bytes - l.at
