use Rattle.ots_attest.specs.declared.attestation.Attestation.TheVariants as attestation
use Rattle.ots_tree.specs.Wire.{last, more, attested}
use Rattle.ots_format_rows.proofs.trees.with_room.Goals as goal

pub build-requires : goal.build-requires
build-requires c =
    (more (attested (attestation.Bitcoin 0)) (last (attested (attestation.Bitcoin 7))), rw (c.in_ok-push-3.ensures.pushed, c.reserve-2.ensures, c.in_ok-push-2.ensures.pushed, c.in_ok-push.ensures.pushed, c.reserve.ensures, c.new-tokens.ensures))
