use Rattle.std.proofs.Common.{ap, ◌∙◌}
use Rattle.std.specs.Ordering.{is_eq}
use Rattle.std.proofs.lemmas.Map.Text.{is_eq-slice_cmp}
use Rattle.ots_attest.specs.Attestation.{key}
use Rattle.ots_attest.proofs.order.AttestationPartialEq.eq.Goals as goal

pub returns : goal.returns
returns c = c.is_eq.ensures ∙ ap is_eq c.cmp.ensures ∙ is_eq-slice_cmp (key c.args.self.now) (key c.args.other.now)
