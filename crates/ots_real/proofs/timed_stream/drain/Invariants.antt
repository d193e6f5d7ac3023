-- What was read fits in the buffer.
use Rattle.std.proofs.Common.{◌≡◌, ◌≤◌, length}
use Rattle.ots_real.proofs.timed_stream.drain.Given as goal

abbrev pub invariant-loop : goal.invariant-loop
invariant-loop g l = (l.left ≤ 8192) × (length l.dropped ≡ 512)
