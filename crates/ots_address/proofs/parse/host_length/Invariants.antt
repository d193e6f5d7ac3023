use Rattle.std.proofs.Common.{ℕ, ◌<◌, get_or, IsTrue}
use Rattle.ots_address.specs.Address.{is_host_byte}
use Rattle.ots_address.proofs.parse.host_length.Given as goal

abbrev pub invariant-loop-i : goal.invariant-loop-i
invariant-loop-i l = (k : ℕ) → k < l.i → IsTrue (is_host_byte (get_or l.rest k 0))
