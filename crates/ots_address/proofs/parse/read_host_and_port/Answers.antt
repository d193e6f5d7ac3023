use Rattle.std.proofs.Common.{◌≡◌, length, arith}
use Rattle.ots_address.proofs.AddressLemmas.{host_ends, after_host}
use Rattle.ots_address.proofs.parse.read_host_and_port.Goals as goal
use Rattle.ots_address.proofs.parse.read_host_and_port.Goals.{then-host-eq0-via-then-host-eq0, then-host-eq0-via-else-host-eq0+then-host-gt-MAX_HOST}

pub returns-then-host-eq0-clause-none : goal.returns-then-host-eq0-clause-none
returns-then-host-eq0-clause-none c = λ host port p.
    let h = c.host_length-host.ensures in
    let same : c.host_length-host.result ≡ length host = host_ends c.args.rest.now host port _ p h.within h.all h.next in
    elim c.then-host-eq0.branch [
      | then-host-eq0-via-then-host-eq0 w ↦ let k = w.if-host-eq0.true in omega (arith, p.least)
      | then-host-eq0-via-else-host-eq0+then-host-gt-MAX_HOST w ↦ let k = w.if-host-gt-MAX_HOST.true in omega (arith, p.greatest)
    ]

pub returns-in-None-clause-none : goal.returns-in-None-clause-none
returns-in-None-clause-none c = λ host port p.
    let h = c.host_length-host.ensures in
    c.in-None.ensures.none port (after_host c.args.rest.now host port _ p (host_ends c.args.rest.now host port _ p h.within h.all h.next))
