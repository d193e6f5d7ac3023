use Rattle.std.proofs.Common.{arith, refl}
use Rattle.ots_calendar_url.proofs.Urls.{authority, no_host, no_truth}
use Rattle.ots_calendar_url.proofs.authority.is_authority.Goals as goal
use Rattle.ots_calendar_url.proofs.authority.is_authority.Goals.{then-host-eq0-via-then-host-eq0, then-host-eq0-via-else-host-eq0+then-host-gt-MAX_HOST}

pub returns-then-host-eq0 : goal.returns-then-host-eq0
returns-then-host-eq0 c =
    let h = c.host_length-host.ensures in (
      λ no. absurd (no_truth no),
      λ a. absurd (no_host c.args.bytes.now c.host_length-host.result h.within h.all h.next
          (λ least greatest. elim c.then-host-eq0.branch [
            | then-host-eq0-via-then-host-eq0 w ↦ let k = w.if-host-eq0.true in omega (arith, least)
            | then-host-eq0-via-else-host-eq0+then-host-gt-MAX_HOST w ↦ let k = w.if-host-gt-MAX_HOST.true in omega (arith, greatest)
          ]) a),
    )

pub returns : goal.returns
returns c =
    let h = c.host_length-host.ensures in
    authority c.args.bytes.now c.host_length-host.result h.within h.all _ c.ends_authority.result refl (omega arith) (omega arith) h.next c.ends_authority.ensures
