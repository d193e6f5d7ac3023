use Rattle.std.proofs.Common.{ℕ, ◌<◌, get_or, IsTrue}
use Rattle.ots_address.specs.Address.{is_host_byte}
use Rattle.ots_calendar_url.proofs.authority.host_length.Given as goal

-- Each byte up to here is a host's.
abbrev pub invariant-loop-i : goal.invariant-loop-i
invariant-loop-i l = (k : ℕ) → k < l.i → IsTrue (is_host_byte (get_or l.bytes k 0))
