use Rattle.std.proofs.Common.{ap, ◌∙◌, ◌++◌, List, ℕ, drop, arith, length-append, length-drop}
use Rattle.ots_varint.specs.Varuint.{varbytes}
use Rattle.ots_varint.proofs.Parts.{in_parts}
use Rattle.ots_attest.specs.Attestation.{kind, payload}
use Rattle.ots_attest.proofs.Lengths.{room_after}
use Rattle.ots_attest.proofs.spelling.put_after_tag.Goals as goal

pub put_payload-requires : goal.put_payload-requires
put_payload-requires c = room_after c.args.attestation.now c.args.out.now c.copy_from_slice.new.self c.requires.limits c.requires.room c.copy_from_slice.ensures.len

pub returns : goal.returns
returns c =
    let a = c.args.attestation.now in
    let out = c.args.out.now in
    let is = c.copy_from_slice.ensures.after ∙ c.kind-kind.ensures.kind in
    let room = c.requires.room in
    in_parts _ 8 (kind a) (varbytes (payload a)) out _ c.put_payload.new.out c.kind-kind.ensures.eight (ap (λ (z : List ℕ). z ++ drop 8 out) is)
    (omega (arith, length-append c.copy_from_slice.new.self (drop 8 out), length-drop 8 out, c.copy_from_slice.ensures.len)) c.put_payload.ensures
