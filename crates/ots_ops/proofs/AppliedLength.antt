-- How long digests and results are.
use Rattle.std.proofs.Common.{◌≡◌, ℕ, zero, suc, ◌*◌, List, [], ◌∷◌, length, refl, arith, length-append}
use Rattle.std.proofs.lemmas.List.{length-reverse}
use Rattle.std.specs.Int.{to_be_bytes, w32}
use Rattle.std.specs.Prelude.{slice_index}
use Rattle.sha1.specs.Sha1.{digest_bytes, sha1}
use Rattle.sha2.proofs.Facts256.{length-sha256}
use Rattle.ots_ripemd.proofs.Digests.{length-ripemd160}
use Rattle.hex.specs.Hex.{encode_with, lower_digits}
use Rattle.ots_ops.specs.Apply.{applied}
use Rattle.ots_ops.specs.HashOp.{digest_length}
use Rattle.ots_ops.specs.Hashed.{hashed}
use Rattle.ots_ops.specs.ResultLength.{made}
use Rattle.ots_ops.specs.declared.hash_op.HashOp.{HashOp}
use Rattle.ots_ops.specs.declared.hash_op.HashOp.TheVariants as hash
use Rattle.ots_ops.specs.declared.op.Op.{Op}
use Rattle.ots_ops.specs.declared.op.Op.TheVariants.{Sha1, Ripemd160, Sha256, Append, Prepend, Reverse, Hexlify}

length-digest : (h : List ℕ) (n : ℕ) → length (digest_bytes h n) ≡ n * 4
unfolding digest_bytes
length-digest h zero = refl
length-digest h (suc n) =
    let before = length-digest h n in
    let last : length (to_be_bytes w32 (slice_index h n)) ≡ 4 = refl in
    omega (arith, before, last, length-append (digest_bytes h n) (to_be_bytes w32 (slice_index h n)))

length-sha1 : (m : List ℕ) → length (sha1 m) ≡ 20
unfolding sha1
length-sha1 m = length-digest _ 5

pub length_of_hashed : (h : HashOp) (m : List ℕ) → length (hashed h m) ≡ digest_length h
length_of_hashed hash.Sha1 m = length-sha1 m
length_of_hashed hash.Ripemd160 m = length-ripemd160 m
length_of_hashed hash.Sha256 m = length-sha256 m

length_of_digits : (table m : List ℕ) → length (encode_with table m) ≡ 2 * length m
unfolding encode_with
length_of_digits table [] = refl
length_of_digits table (b ∷ m) = let rest = length_of_digits table m in omega arith

pub length_of_applied : (o : Op) (m : List ℕ) → length (applied o m) ≡ made o (length m)
length_of_applied Sha1 m = length_of_hashed hash.Sha1 m
length_of_applied Ripemd160 m = length_of_hashed hash.Ripemd160 m
length_of_applied Sha256 m = length_of_hashed hash.Sha256 m
length_of_applied (Append x) m = length-append m x
length_of_applied (Prepend x) m = length-append x m
length_of_applied Reverse m = length-reverse m
length_of_applied Hexlify m = length_of_digits lower_digits m
