use Rattle.std.proofs.Common.{◌+◌, ◌-◌, ◌≤◌, length, take}
use Rattle.ots_outside.specs.Streams.{Gives}
use Rattle.ots_outside.proofs.reading.read_all.Given as goal

-- What came fills the vector up to here, and all its room is within the limit and one byte.
abbrev pub invariant-loop-filled : goal.invariant-loop-filled
invariant-loop-filled g l =
    let left = g.S.Source.left in
    let faults = g.S.Source.faults in
    record {
      in_range : l.filled ≤ length l.bytes.items;
      fits : length l.bytes.items ≤ l.limit + 1;
      gave : Gives (left l.fn.source) (left l.source) (take l.filled l.bytes.items);
      later : faults l.fn.source ≤ faults l.source;
      same : g.S.Source.same l.fn.source l.source;
    }

-- Each turn reads a byte.
abbrev pub decreases-loop-filled : goal.decreases-loop-filled
decreases-loop-filled g l = l.limit + 1 - l.filled
