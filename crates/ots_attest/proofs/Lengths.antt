-- How many bytes an attestation's parts have.
use Rattle.std.proofs.Common.{◌≡◌, ℕ, ◌+◌, ◌-◌, ◌≤◌, List, ◌++◌, length, take, drop, ◌∙◌, arith, length-append, length-drop}
use Rattle.std.proofs.lemmas.List.{drop_at, take_all, length-take-le}
use Rattle.ots_varint.specs.Varuint.{varuint, varbytes}
use Rattle.ots_varint.proofs.OneNumber.{varuint_at_most_ten, varuint_at_most_two}
use Rattle.ots_varint.proofs.Written.{varbytes_length}
use Rattle.ots_attest.specs.declared.attestation.Attestation.{Attestation}
use Rattle.ots_attest.specs.declared.attestation.Attestation.TheVariants.{Pending, Bitcoin, Litecoin, Unknown}
use Rattle.ots_attest.specs.Attestation.{kind, payload, spell, IsAttestation}
use Rattle.ots_attest.proofs.OneAttestation.{kind-len}

pub ruleset lengths = (varuint_at_most_ten, varbytes_length)

pub spelled_length : (a : Attestation) → IsAttestation a → length (spell a) ≡ 9 + (length (varuint (length (payload a))) + length (payload a))
spelled_length a h = omega (arith, length-append (kind a) (varbytes (payload a)), kind-len a h, varbytes_length (payload a))

pub payload_few : (a : Attestation) → IsAttestation a → length (payload a) ≤ 8192
payload_few (Pending u) h = let few = h.greatest in omega (arith, varbytes_length u, varuint_at_most_ten (length u))
payload_few (Bitcoin n) h = omega (arith, varuint_at_most_ten n)
payload_few (Litecoin n) h = omega (arith, varuint_at_most_ten n)
payload_few (Unknown o) h = h.2.greatest

-- after the kind there is room for the payload
pub room_after : (a : Attestation) (out prefix : List ℕ) → IsAttestation a → length out ≡ 8202 → length prefix ≡ length (take 8 out)
    → length (varbytes (payload a)) ≤ length (take (length (prefix ++ drop 8 out) - 8) (drop 8 (prefix ++ drop 8 out)))
room_after a out prefix h long same =
    let few = payload_few a h in
    let two = varuint_at_most_two (length (payload a)) (omega arith) in
    let eight : length prefix ≡ 8 = same ∙ length-take-le 8 out (omega arith) in
    rw (drop_at prefix (drop 8 out) 8 eight, take_all (length (prefix ++ drop 8 out) - 8) (drop 8 out) (omega (arith, length-append prefix (drop 8 out), length-drop 8 out)))
    (omega (arith, varbytes_length (payload a), length-drop 8 out))
