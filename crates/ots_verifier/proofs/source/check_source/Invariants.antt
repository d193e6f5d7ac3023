use Rattle.std.proofs.Common.{◌≡◌, ◌-◌, ◌≤◌, length}
use Rattle.ots_outside.specs.Streams.{Gives}
use Rattle.ots_verifier.proofs.source.check_source.Given as goal

-- What came is what the verifier was fed, at most one byte past the limit.
abbrev pub invariant-loop-came : goal.invariant-loop-came
invariant-loop-came g l =
    let left = g.S.Source.left in
    let faults = g.S.Source.faults in
    record {
      bitcoin : l.verifier.bitcoin ≡ l.fn.verifier.bitcoin;
      litecoin : l.verifier.litecoin ≡ l.fn.verifier.litecoin;
      fed : Gives (left l.fn.source) (left l.source) l.verifier.bytes;
      came : l.came ≡ length l.verifier.bytes;
      at_most : l.came ≤ 4194305;
      later : faults l.fn.source ≤ faults l.source;
      same : g.S.Source.same l.fn.source l.source;
    }

-- Each turn reads a byte.
abbrev pub decreases-loop-came : goal.decreases-loop-came
decreases-loop-came g l = 4194305 - l.came
