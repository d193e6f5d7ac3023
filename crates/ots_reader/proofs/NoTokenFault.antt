-- Where a token stands, no line of the table fits.
use Rattle.std.proofs.Common.{◌≡◌, ℕ, ◌+◌, ◌≤◌, List, ◌++◌, length, None, refl, arith, length-append, append_assoc}
use Rattle.std.proofs.lemmas.Bool.{le-ltb, ne_eqb}
use Rattle.std.proofs.lemmas.List.{take_at, drop_at}
use Rattle.ots_varint.specs.declared.reading.VaruintRead.TheVariants.{Value}
use Rattle.ots_varint.specs.Varuint.{varuint, varbytes}
use Rattle.ots_varint.specs.Reading.{reading}
use Rattle.ots_varint.proofs.ReadBack.{reading_again}
use Rattle.ots_ops.specs.Arg.{IsArg}
use Rattle.ots_ops.specs.declared.op.Op.TheVariants as op
use Rattle.ots_attest.specs.Attestation.{kind, payload}
use Rattle.ots_attest.specs.PayloadFault.{payload_fault}
use Rattle.ots_attest.proofs.OneAttestation.{kind-len}
use Rattle.ots_attest.proofs.Payloads.{payload_ok}
use Rattle.ots_attest.proofs.Lengths.{payload_few}
use Rattle.ots_tree.specs.declared.token.Token.{Token}
use Rattle.ots_tree.specs.declared.token.Token.TheVariants as token
use Rattle.ots_tree.specs.Wire.{spell, IsToken}
use Rattle.ots_reader.specs.TokenFault.{argument_fault, body_fault, token_fault}

-- x after the spelling w of its length
room : (w x tail : List ℕ) → length w + length x ≤ length (w ++ (x ++ tail))
room w x tail = omega (arith, length-append w (x ++ tail), length-append x tail)

argument_ok : (w x tail : List ℕ) → IsArg x → argument_fault (Value (length x) (length w)) (w ++ (x ++ tail)) ≡ None
argument_ok w x tail h =
    let least = h.least in
    rw (ne_eqb (length x) 0 (λ z. omega arith), le-ltb 4096 (length x) h.greatest, le-ltb (length (w ++ (x ++ tail))) (length w + length x) (room w x tail)) refl

body_ok : (k w p tail : List ℕ) → length p ≤ 8192 → payload_fault k p ≡ None → body_fault k (Value (length p) (length w)) (w ++ (p ++ tail)) ≡ None
body_ok k w p tail few none =
    rw (
      le-ltb 8192 (length p) few,
      le-ltb (length (w ++ (p ++ tail))) (length w + length p) (room w p tail),
      drop_at w (p ++ tail) (length w) refl,
      take_at p tail (length p) refl,
      none,
    ) refl

read : (x tail : List ℕ) → length x ≤ 8192 → reading (varuint (length x) ++ (x ++ tail)) ≡ Value (length x) (length (varuint (length x)))
read x tail few = reading_again (length x) (x ++ tail) (omega arith)

after : (x tail : List ℕ) → IsArg x → argument_fault (reading (varbytes x ++ tail)) (varbytes x ++ tail) ≡ None
unfolding varbytes
after x tail h =
    let few = h.greatest in
    rw (append_assoc (varuint (length x)) x tail, read x tail (omega arith)) (argument_ok (varuint (length x)) x tail h)

body_after : (k p tail : List ℕ) → length p ≤ 8192 → payload_fault k p ≡ None → body_fault k (reading (varbytes p ++ tail)) (varbytes p ++ tail) ≡ None
unfolding varbytes
body_after k p tail few none =
    rw (append_assoc (varuint (length p)) p tail, read p tail few) (body_ok k (varuint (length p)) p tail few none)

pub token_ok : (x : Token) (tail : List ℕ) → IsToken x → token_fault (spell x ++ tail) ≡ None
unfolding token_fault
token_ok token.Fork tail h = refl
token_ok (token.Op op.Sha1) tail h = refl
token_ok (token.Op op.Ripemd160) tail h = refl
token_ok (token.Op op.Sha256) tail h = refl
token_ok (token.Op op.Reverse) tail h = refl
token_ok (token.Op op.Hexlify) tail h = refl
token_ok (token.Op (op.Append x)) tail h = after x tail h
token_ok (token.Op (op.Prepend x)) tail h = after x tail h
token_ok (token.Attestation a) tail h =
    let v = varbytes (payload a) in
    let eight : 8 ≤ length (kind a ++ (v ++ tail)) = omega (arith, length-append (kind a) (v ++ tail), kind-len a h) in
    rw (
      append_assoc (kind a) v tail,
      le-ltb (length (kind a ++ (v ++ tail))) 8 eight,
      take_at (kind a) (v ++ tail) 8 (kind-len a h),
      drop_at (kind a) (v ++ tail) 8 (kind-len a h),
    ) (body_after (kind a) (payload a) tail (payload_few a h) (payload_ok a h))
