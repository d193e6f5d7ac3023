-- Bytes that are written into a buffer.
use Rattle.std.proofs.Common.{◌≡◌, ℕ, suc, ◌+◌, ◌-◌, ◌*◌, ◌%◌, ◌<◌, ◌≤◌, List, [], ◌∷◌, ◌++◌, length, take, drop, set, replicate, flat_map, slice_index, refl, arith, add-one, append-nil, append_assoc, take-suc, length-drop, length-append}
use Rattle.std.proofs.lemmas.List.{drop_all, take-replicate, length-replicate}
use Rattle.std.proofs.lemmas.Grind.{flat_map-append}
use Rattle.std.proofs.lemmas.Slice.{take-put_mid}
use Rattle.std.proofs.Math.Seq.{set-append_seam, take-append-add}
use Rattle.std.specs.Int.{to_le_bytes, w32}
use borrow.Rule.Slice.PartMut.{put_mid, post_of}

-- the rest of a block is filled from the start of the bytes
pub filled_block : (block ys filling more bytes : List ℕ) (a k : ℕ) → length block ≡ a + k → ys ≡ filling → bytes ≡ filling ++ more
    → put_mid a k block ys ++ more ≡ take a block ++ bytes
filled_block block ys filling more bytes a k len e split =
    let none : post_of a k block ≡ [] = drop_all k (drop a block) (omega (arith, length-drop a block)) in
    rw (none, append-nil, e, split) (append_assoc (take a block) filling more)

-- one more word, low byte first
pub word_written : (out ys words : List ℕ) (i k : ℕ) → take (4 * i) out ≡ flat_map (to_le_bytes w32) (take i words) → 4 * i ≤ length out → i < length words
    → ys ≡ to_le_bytes w32 (slice_index words i) → take (4 * (i + 1)) (put_mid (4 * i) k out ys) ≡ flat_map (to_le_bytes w32) (take (i + 1) words)
word_written out ys words i k held fits low e =
    let four : length ys ≡ 4 = rw e refl in
    let prefix : take (4 * (i + 1)) (put_mid (4 * i) k out ys) ≡ take (4 * i) out ++ ys = take-put_mid (4 * i) k out ys (4 * (i + 1)) (omega arith) fits in
    let last = to_le_bytes w32 (slice_index words i) in
    rw (prefix, held, e, add-one, take-suc words i 0 low, flat_map-append, append-nil last) refl

-- the bytes that wait, the byte 80, zeros and the length, which end at l in a buffer of zeros
pub padded_bytes : (rest ys zeros written bits : List ℕ) (l k : ℕ) → ys ≡ rest → zeros ≡ replicate (128 - length rest) 0 → length rest < 64 → written ≡ bits → length bits ≡ 8
    → l ≡ length rest + 1 + (119 - length rest) % 64 + 8
    → take l (put_mid (l - 8) k (set (ys ++ zeros) (length rest) 0x80) written) ≡ rest ++ 0x80 ∷ replicate ((119 - length rest) % 64) 0 ++ bits
padded_bytes rest ys zeros written bits l k e ez low eb eight end =
    let n : ℕ = (119 - length rest) % 64 in
    let j : ℕ = 127 - length rest in
    let more : 128 - length rest ≡ suc j = omega arith in
    let marked : set (ys ++ zeros) (length rest) 0x80 ≡ rest ++ 0x80 ∷ replicate j 0 = rw (e, ez, more) (set-append_seam rest 0 (replicate j 0) 0x80) in
    let room : l - 8 ≤ length (rest ++ 0x80 ∷ replicate j 0) = omega (arith, length-append rest (0x80 ∷ replicate j 0), length-replicate {A = ℕ} j 0) in
    let prefix : l - 8 ≡ length rest + suc n = omega arith in
    rw (marked, eb, take-put_mid (l - 8) k (rest ++ 0x80 ∷ replicate j 0) bits l (omega arith) room, prefix, take-append-add rest (0x80 ∷ replicate j 0) (suc n), take-replicate {X = ℕ} n j 0 (omega arith)) refl
