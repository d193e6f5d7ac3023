-- Each try that was cut short consumed and counted nothing, and its limit ran.
use Rattle.std.proofs.Common.{◌≡◌, length}
use Rattle.std.specs.Io.KnownBytes.{Keeps}
use Rattle.ots_real.specs.Sockets.{link_faults, link_stream, open_bytes, read_limit, write_limit}
use Rattle.ots_real.proofs.Time.{Tried}
use Rattle.ots_real.proofs.tcp_link.TcpLinkLink.read.Given as goal

abbrev pub invariant-loop : goal.invariant-loop
invariant-loop g l =
    (length l.buf ≡ length l.initial.buf)
    × Keeps (open_bytes g.S.Read.remaining (link_stream l.initial.self)) (open_bytes g.S.Read.remaining (link_stream l.self))
    × (link_faults l.self ≡ link_faults l.initial.self)
    × Tried (link_stream l.initial.self) (link_stream l.self) (read_limit l.initial.self) (read_limit l.self) (write_limit l.initial.self) (write_limit l.self)
