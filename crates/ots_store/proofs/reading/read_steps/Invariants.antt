use Rattle.std.proofs.Common.{◌≡◌}
use Rattle.ots_store.specs.Records.{steps_at}
use Rattle.ots_store.proofs.reading.read_steps.Given as goal

abbrev pub invariant-loop-i : goal.invariant-loop-i
invariant-loop-i l = l.branch ≡ steps_at l.i l.bytes
