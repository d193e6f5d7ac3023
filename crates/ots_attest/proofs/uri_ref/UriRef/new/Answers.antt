use Rattle.std.proofs.Common.{ap}
use Rattle.std.specs.Prelude.{is_err}
use Rattle.ots_attest.proofs.UriBytes.{tested}
use Rattle.ots_attest.proofs.uri_ref.UriRef.new.Goals as goal

pub invariant_of-result : goal.invariant_of-result
invariant_of-result c =
    let ok = tested c.args.text.now c.as_bytes.result.now c.check.result c.as_bytes.ensures.value c.check.ensures (ap is_err c.in-Ok.is) in
    record { greatest = ok.0.greatest; each = ok.1 }
