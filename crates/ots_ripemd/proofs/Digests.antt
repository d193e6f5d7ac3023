-- What the definition says of digests, for the crates above, and four digests of the authors' test
-- vectors, so that a wrong table, constant or padding in the definition does not check.
use Rattle.std.proofs.Common.{◌≡◌, ℕ, ◌-◌, ◌*◌, ◌%◌, ◌^◌, List, [], ◌∷◌, length, replicate, codes, refl, arith, length-append}
use Rattle.std.proofs.lemmas.List.{length-replicate}
use Rattle.std.specs.Int.{to_le_bytes, w64}
use Rattle.ots_ripemd.specs.Ripemd160.{after, chained, compressed, left, padded, padding, pieces, right, ripemd160}

pub length-ripemd160 : (message : List ℕ) → length (ripemd160 message) ≡ 20
unfolding ripemd160
length-ripemd160 message = refl

-- a padded message is whole blocks, so that none of it is left out
pub padded_whole : (message : List ℕ) → length (padded message) % 64 ≡ 0
padded_whole message =
    let n : ℕ = length message in
    let zeros : ℕ = (119 - n % 64) % 64 in
    let bits : List ℕ = to_le_bytes w64 (n * 8 % 2 ^ 64) in
    let eight : length bits ≡ 8 = refl in
    omega (arith, length-append message (padding n), length-append (0x80 ∷ replicate zeros 0) bits, length-replicate {A = ℕ} zeros 0, eight)

pub digest_of_nothing : ripemd160 [] ≡ 0x9c ∷ 0x11 ∷ 0x85 ∷ 0xa5 ∷ 0xc5 ∷ 0xe9 ∷ 0xfc ∷ 0x54 ∷ 0x61 ∷ 0x28 ∷ 0x08 ∷ 0x97 ∷ 0x7e ∷ 0xe8 ∷ 0xf5 ∷ 0x48 ∷ 0xb2 ∷ 0x25 ∷ 0x8d ∷ 0x31 ∷ []
unfolding after chained compressed left pieces right ripemd160
digest_of_nothing = refl

pub digest_of_a : ripemd160 (codes "a") ≡ 0x0b ∷ 0xdc ∷ 0x9d ∷ 0x2d ∷ 0x25 ∷ 0x6b ∷ 0x3e ∷ 0xe9 ∷ 0xda ∷ 0xae ∷ 0x34 ∷ 0x7b ∷ 0xe6 ∷ 0xf4 ∷ 0xdc ∷ 0x83 ∷ 0x5a ∷ 0x46 ∷ 0x7f ∷ 0xfe ∷ []
unfolding after chained compressed left pieces right ripemd160
digest_of_a = refl

pub digest_of_abc : ripemd160 (codes "abc") ≡ 0x8e ∷ 0xb2 ∷ 0x08 ∷ 0xf7 ∷ 0xe0 ∷ 0x5d ∷ 0x98 ∷ 0x7a ∷ 0x9b ∷ 0x04 ∷ 0x4a ∷ 0x8e ∷ 0x98 ∷ 0xc6 ∷ 0xb0 ∷ 0x87 ∷ 0xf1 ∷ 0x5a ∷ 0x0b ∷ 0xfc ∷ []
unfolding after chained compressed left pieces right ripemd160
digest_of_abc = refl

-- 62 bytes, which the padding carries into a second block
pub digest_of_two_blocks : ripemd160 (codes "ABCDEFGHIJKLMNOPQRSTUVWXYZabcdefghijklmnopqrstuvwxyz0123456789")
    ≡ 0xb0 ∷ 0xe2 ∷ 0x0b ∷ 0x6e ∷ 0x31 ∷ 0x16 ∷ 0x64 ∷ 0x02 ∷ 0x86 ∷ 0xed ∷ 0x3a ∷ 0x87 ∷ 0xa5 ∷ 0x71 ∷ 0x30 ∷ 0x79 ∷ 0xb2 ∷ 0x1f ∷ 0x51 ∷ 0x89 ∷ []
unfolding after chained compressed left pieces right ripemd160
digest_of_two_blocks = refl
