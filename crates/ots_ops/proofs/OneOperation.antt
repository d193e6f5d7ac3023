-- No spelling of an operation begins another.
use Rattle.std.proofs.Common.{◌≡◌, ℕ, List, ◌∷◌, ◌++◌, refl, ap, arith, ◌<◌, lit<}
use Rattle.ots_varint.specs.Varuint.{varbytes}
use Rattle.ots_varint.proofs.OneNumber.{varbytes-apart}
use Rattle.ots_ops.specs.declared.op.Op.{Op}
use Rattle.ots_ops.specs.declared.op.Op.TheVariants.{Sha1, Ripemd160, Sha256, Append, Prepend, Reverse, Hexlify}
use Rattle.ots_ops.specs.Operation.{spell, tag}

-- the first bytes of equal lists
pub heads : {a b : ℕ} {x y : List ℕ} → a ∷ x ≡ b ∷ y → a ≡ b
heads e = cc

pub spell-apart : (o p : Op) (x y : List ℕ) → spell o ++ x ≡ spell p ++ y → (o ≡ p) × (x ≡ y)
spell-apart Sha1 Sha1 x y e = (refl, cc)
spell-apart Ripemd160 Ripemd160 x y e = (refl, cc)
spell-apart Sha256 Sha256 x y e = (refl, cc)
spell-apart Reverse Reverse x y e = (refl, cc)
spell-apart Hexlify Hexlify x y e = (refl, cc)
spell-apart (Append a) (Append b) x y e =
    let rest : varbytes a ++ x ≡ varbytes b ++ y = cc in
    let parts = varbytes-apart a b x y rest in
    (ap (λ (z : List ℕ). Append z) parts.0, parts.1)
spell-apart (Prepend a) (Prepend b) x y e =
    let rest : varbytes a ++ x ≡ varbytes b ++ y = cc in
    let parts = varbytes-apart a b x y rest in
    (ap (λ (z : List ℕ). Prepend z) parts.0, parts.1)
spell-apart o p x y e = absurd (let h = heads e in omega arith)

-- an operation's tag is neither an attestation's nor a fork's
pub tag-between : (o : Op) → (0x00 < tag o) × (tag o < 0xff)
tag-between Sha1 = (lit< tt, lit< tt)
tag-between Ripemd160 = (lit< tt, lit< tt)
tag-between Sha256 = (lit< tt, lit< tt)
tag-between (Append x) = (lit< tt, lit< tt)
tag-between (Prepend x) = (lit< tt, lit< tt)
tag-between Reverse = (lit< tt, lit< tt)
tag-between Hexlify = (lit< tt, lit< tt)
