use Rattle.std.proofs.Common.{[], ◌∷◌, ◌++◌, refl}
use Rattle.ots_varint.specs.Varuint.{varbytes}
use Rattle.ots_varint.proofs.Parts.{in_parts, set_first}
use Rattle.ots_attest.specs.Attestation.{kind, payload}
use Rattle.ots_attest.proofs.spelling.spell_attestation.Goals as goal

pub returns-clause-spelled : goal.returns-clause-spelled
returns-clause-spelled c =
    let a = c.args.attestation.now in
    let first = set_first 8202 0 c.args.out.now c.told-out in
    in_parts 8202 1 (0 ∷ []) (kind a ++ varbytes (payload a)) c.args.out.now _ c.put_after_tag.new.out refl first.0 first.1 c.put_after_tag.ensures
