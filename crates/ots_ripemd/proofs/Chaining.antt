-- How the chaining words and the bytes that wait follow a message as it grows.
use Rattle.std.proofs.Common.{◌≡◌, ℕ, ◌+◌, ◌-◌, ◌*◌, ◌/◌, ◌%◌, ◌^◌, ◌<◌, List, [], ◌∷◌, ◌++◌, length, take, drop, map, fold, replicate, refl, ap, sym, ◌∙◌, arith, length-append, length-drop}
use Rattle.std.proofs.lemmas.List.{drop-drop, map-append, append_assoc, drop-append-le, take_all, drop_all}
use Rattle.std.proofs.lemmas.List.Sums.{fold-append}
use Rattle.std.specs.Int.{to_le_bytes, w64}
use Rattle.ots_ripemd.specs.Ripemd160.{pieces, blocks, chained, compressed, initial, padded, padding, words}
use Rattle.ots_ripemd.specs.Hasher.{Keeps, rest}
use Rattle.ots_ripemd.specs.declared.block.Words.{Words}
use Rattle.ots_ripemd.proofs.Pieces.{pieces-add, pieces_next, pieces-append}

-- the blocks of a longer list: those of the first, then those of what is left of it and the second
blocks-append : (xs ys : List ℕ) → blocks (xs ++ ys) ≡ blocks xs ++ blocks (rest xs ++ ys)
blocks-append xs ys =
    let p : ℕ = length xs / 64 in
    let q : ℕ = length (rest xs ++ ys) / 64 in
    let count : length (xs ++ ys) / 64 ≡ p + q = omega (arith, length-append xs ys, length-append (rest xs) ys, length-drop (64 * p) xs) in
    let left : drop (64 * p) (xs ++ ys) ≡ rest xs ++ ys = drop-append-le (64 * p) xs ys (omega arith) in
    rw (count, pieces-add 64 p q (xs ++ ys), pieces-append 64 p xs ys (omega arith), left, map-append) refl

rest-append : (xs ys : List ℕ) → rest (xs ++ ys) ≡ rest (rest xs ++ ys)
rest-append xs ys =
    let p : ℕ = length xs / 64 in
    let q : ℕ = length (rest xs ++ ys) / 64 in
    let count : 64 * (length (xs ++ ys) / 64) ≡ 64 * p + 64 * q = omega (arith, length-append xs ys, length-append (rest xs) ys, length-drop (64 * p) xs) in
    let left : drop (64 * p) (xs ++ ys) ≡ rest xs ++ ys = drop-append-le (64 * p) xs ys (omega arith) in
    rw (count, ← drop-drop (64 * q) (64 * p) (xs ++ ys), left) refl

pub chained-append : (xs ys : List ℕ) → chained (xs ++ ys) ≡ fold compressed (chained xs) (blocks (rest xs ++ ys))
unfolding chained
chained-append xs ys = rw (blocks-append xs ys, fold-append) refl

-- less than a block
blocks_short : (xs : List ℕ) → length xs < 64 → blocks xs ≡ []
unfolding pieces
blocks_short xs short = let none : length xs / 64 ≡ 0 = omega arith in rw none refl

rest_short : (xs : List ℕ) → length xs < 64 → rest xs ≡ xs
rest_short xs short = let none : 64 * (length xs / 64) ≡ 0 = omega arith in rw none refl

-- one block
blocks_one : (xs : List ℕ) → length xs ≡ 64 → blocks xs ≡ words xs ∷ []
unfolding pieces
blocks_one xs full = let one : length xs / 64 ≡ 1 = omega arith in rw one (ap (λ (block : List ℕ). words block ∷ []) (take_all 64 xs (omega arith)))

rest_none : (xs : List ℕ) → length xs ≡ 64 → rest xs ≡ []
rest_none xs full = drop_all (64 * (length xs / 64)) xs (omega arith)

-- one more block of a list
pub next_block : (h k : Words) (xs block : List ℕ) (i : ℕ) → k ≡ fold compressed h (map words (pieces 64 i xs)) → block ≡ take 64 (drop (64 * i) xs)
    → compressed k (words block) ≡ fold compressed h (map words (pieces 64 (i + 1) xs))
next_block h k xs block i held e = rw (pieces_next 64 i xs, map-append, fold-append, held, e) refl

length-rest : (xs : List ℕ) → length (rest xs) ≡ length xs % 64
length-rest xs = omega (arith, length-drop (64 * (length xs / 64)) xs)

-- a hasher of nothing
pub keeps_nothing : (block : List ℕ) → Keeps initial block 0 []
unfolding chained pieces
keeps_nothing block = record { counted = refl; few = omega arith; taken_in = refl; waiting = refl }

-- bytes that leave the block short
pub keeps_short : (h : Words) (block filled m d : List ℕ) (n k : ℕ) → Keeps h block n m → n % 64 + length d < 64
    → k ≡ n + length d → k < 2 ^ 61 → take (n % 64 + length d) filled ≡ take (n % 64) block ++ d → Keeps h filled k (m ++ d)
keeps_short h block filled m d n k keeps short sum few e =
    let len : length (rest m ++ d) < 64 = omega (arith, length-append (rest m) d, length-rest m, keeps.counted) in
    let stands : k % 64 ≡ n % 64 + length d = omega arith in record {
      counted = omega (arith, length-append m d, keeps.counted);
      few = few;
      taken_in = rw (chained-append m d, blocks_short (rest m ++ d) len) keeps.taken_in;
      waiting = rw (stands, e, rest-append m d, rest_short (rest m ++ d) len, keeps.waiting) refl;
    }

-- bytes that fill the block, then whole blocks, then some that begin a block
pub keeps_long : (h g j : Words) (block full filled m d more : List ℕ) (n k : ℕ) → Keeps h block n m → full ++ more ≡ take (n % 64) block ++ d → length full ≡ 64
    → k ≡ n + length d → k < 2 ^ 61 → g ≡ compressed h (words full) → j ≡ fold compressed g (blocks more) → take (length (rest more)) filled ≡ rest more
    → Keeps j filled k (m ++ d)
keeps_long h g j block full filled m d more n k keeps e whole sum few eg ej ef =
    let all : rest m ++ d ≡ full ++ more = rw (← keeps.waiting) (sym e) in
    let end : rest (m ++ d) ≡ rest more = rest-append m d ∙ rw (all, rest-append full more, rest_none full whole) refl in
    let stands : k % 64 ≡ length (rest more) = omega (arith, length-rest (m ++ d), ap length end, length-append m d, keeps.counted) in record {
      counted = omega (arith, length-append m d, keeps.counted);
      few = few;
      taken_in = rw (chained-append m d, all, blocks-append full more, blocks_one full whole, rest_none full whole, ← keeps.taken_in) (ej ∙ ap (λ (v : Words). fold compressed v (blocks more)) eg);
      waiting = rw (stands, end) ef;
    }

-- the message and its padding: what waits, with the padding after it, is whole blocks
pub keeps_padded : (h : Words) (block end m : List ℕ) (n : ℕ) → Keeps h block n m
    → end ≡ take (n % 64) block ++ 0x80 ∷ replicate ((119 - length (take (n % 64) block)) % 64) 0 ++ to_le_bytes w64 (n * 8)
    → fold compressed h (blocks end) ≡ chained (padded m)
keeps_padded h block end m n keeps e =
    let used : length (take (n % 64) block) ≡ length m % 64 = ap length keeps.waiting ∙ length-rest m in
    let bits : n * 8 ≡ length m * 8 % 2 ^ 64 = omega (arith, keeps.counted, keeps.few) in
    rw (e, used, bits, keeps.waiting, append_assoc, keeps.taken_in) (sym (chained-append m (padding (length m))))
