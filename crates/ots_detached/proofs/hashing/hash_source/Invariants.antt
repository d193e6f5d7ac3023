use Rattle.std.proofs.Common.{◌≡◌, ◌+◌, ◌-◌, ◌≤◌, length}
use Rattle.ots_outside.specs.Streams.{Gives}
use Rattle.ots_detached.proofs.hashing.hash_source.Given as goal

-- What came is what the hasher was fed, at most one byte past the limit.
abbrev pub invariant-loop-came : goal.invariant-loop-came
invariant-loop-came g l =
    let left = g.S.Source.left in
    let faults = g.S.Source.faults in
    record {
      hash : l.hasher.hash ≡ l.fn.hash;
      fed : Gives (left l.fn.source) (left l.source) l.hasher.fed;
      came : l.came ≡ length l.hasher.fed;
      at_most : l.came ≤ l.limit + 1;
      later : faults l.fn.source ≤ faults l.source;
      same : g.S.Source.same l.fn.source l.source;
    }

-- Each turn reads a byte.
abbrev pub decreases-loop-came : goal.decreases-loop-came
decreases-loop-came g l = l.limit + 1 - l.came
