-- Which tag a byte is.
use Rattle.std.proofs.Common.{◌≡◌, ℕ, Bool, true, false, eqb, [], ◌∷◌, refl, subst, inl, inr, arith}
use Rattle.std.specs.Prelude.{◌⊎◌}
use Rattle.std.proofs.lemmas.Bool.Decides.{nat_tests}
use Rattle.ots_ops.specs.declared.op.Op.TheVariants as op
use Rattle.ots_tree.specs.declared.token.Token.{Token}
use Rattle.ots_tree.specs.declared.token.Token.TheVariants as token
use Rattle.ots_tree.specs.Wire.{spell, IsToken}
use Rattle.ots_reader.specs.TokenFault.{is_tag}

-- of an attestation, of an append or a prepend, of a token that is its tag alone, or none
pub data Tag (b : ℕ) : Type 0 where
  attestation : b ≡ 0x00 → Tag b
  append : b ≡ 0xf0 → Tag b
  prepend : b ≡ 0xf1 → Tag b
  alone : (x : Token) → IsToken x → spell x ≡ b ∷ [] → Tag b
  none : is_tag b ≡ false → Tag b

pub decide : (x : Bool) → (x ≡ true) ⊎ (x ≡ false)
decide true = inl refl
decide false = inr refl

same : (b c : ℕ) → eqb b c ≡ true → c ≡ b
same b c e = grind (arith, nat_tests)

-- what holds of this tag, and of a byte that is another, holds of the byte
either : (c b : ℕ) → Tag c → (eqb b c ≡ false → Tag b) → Tag b
either c b this other =
    elim (decide (eqb b c)) [
      | inl y ↦ subst Tag (same b c y) this
      | inr n ↦ other n
    ]

pub tag_of : (b : ℕ) → Tag b
tag_of b =
    either 0x00 b (attestation refl) (λ n0.
    either 0x02 b (alone (token.Op op.Sha1) tt refl) (λ n1.
    either 0x03 b (alone (token.Op op.Ripemd160) tt refl) (λ n2.
    either 0x08 b (alone (token.Op op.Sha256) tt refl) (λ n3.
    either 0xf0 b (append refl) (λ n4.
    either 0xf1 b (prepend refl) (λ n5.
    either 0xf2 b (alone (token.Op op.Reverse) tt refl) (λ n6.
    either 0xf3 b (alone (token.Op op.Hexlify) tt refl) (λ n7.
    either 0xff b (alone token.Fork tt refl) (λ n8.
    none (rw (n0, n1, n2, n3, n4, n5, n6, n7, n8) refl))))))))))
