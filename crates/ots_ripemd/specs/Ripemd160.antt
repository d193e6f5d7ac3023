-- RIPEMD-160, as "RIPEMD-160: A Strengthened Version of RIPEMD" defines it (H. Dobbertin,
-- A. Bosselaers, B. Preneel, 1996). A message is a list of bytes, a word a number below 2 ^ 32.
use Rattle.std.specs.Prelude.{ℕ, zero, suc, ◌+◌, ◌-◌, ◌*◌, ◌/◌, ◌%◌, ◌^◌, List, [], ◌∷◌, ◌++◌, length, take, drop}
use Rattle.std.specs.Prelude.{replicate, map, fold, flat_map, bit_and, bit_or, bit_xor, slice_index}
use Rattle.std.specs.Int.{w32, w64, bit_not, rotate_left, from_le_bytes, to_le_bytes}
use Rattle.ots_ripemd.specs.declared.block.Words.{Words}

-- ---- a block

-- the sum of two words modulo 2 ^ 32
abbrev pub add : ℕ → ℕ → ℕ
add x y = (x + y) % 2 ^ 32

-- the functions at bit level, one for each sixteen steps of the left line
abbrev pub f1 : ℕ → ℕ → ℕ → ℕ
f1 x y z = bit_xor (bit_xor x y) z

abbrev pub f2 : ℕ → ℕ → ℕ → ℕ
f2 x y z = bit_or (bit_and x y) (bit_and (bit_not w32 x) z)

abbrev pub f3 : ℕ → ℕ → ℕ → ℕ
f3 x y z = bit_xor (bit_or x (bit_not w32 y)) z

abbrev pub f4 : ℕ → ℕ → ℕ → ℕ
f4 x y z = bit_or (bit_and x z) (bit_and y (bit_not w32 z))

abbrev pub f5 : ℕ → ℕ → ℕ → ℕ
f5 x y z = bit_xor x (bit_or y (bit_not w32 z))

-- a step of a line: its function f, the constant K that it adds, the place r of the word that it
-- reads, and by how many bits s it rotates
pub record Step : Type 0 where
  pub function : ℕ → ℕ → ℕ → ℕ
  pub constant : ℕ
  pub place : ℕ
  pub turn : ℕ

-- the steps with one function and one constant, from their places and turns
abbrev pub round : (ℕ → ℕ → ℕ → ℕ) → ℕ → List ℕ → List ℕ → List Step
round f k (r ∷ rs) (s ∷ ss) = record { function = f; constant = k; place = r; turn = s } ∷ round f k rs ss
round f k _ _ = []

-- the eighty steps of the left line
unfoldable pub left : List Step
left =
    round f1 0x00000000
    (0 ∷ 1 ∷ 2 ∷ 3 ∷ 4 ∷ 5 ∷ 6 ∷ 7 ∷ 8 ∷ 9 ∷ 10 ∷ 11 ∷ 12 ∷ 13 ∷ 14 ∷ 15 ∷ [])
    (11 ∷ 14 ∷ 15 ∷ 12 ∷ 5 ∷ 8 ∷ 7 ∷ 9 ∷ 11 ∷ 13 ∷ 14 ∷ 15 ∷ 6 ∷ 7 ∷ 9 ∷ 8 ∷ [])
    ++ round f2 0x5a827999
    (7 ∷ 4 ∷ 13 ∷ 1 ∷ 10 ∷ 6 ∷ 15 ∷ 3 ∷ 12 ∷ 0 ∷ 9 ∷ 5 ∷ 2 ∷ 14 ∷ 11 ∷ 8 ∷ [])
    (7 ∷ 6 ∷ 8 ∷ 13 ∷ 11 ∷ 9 ∷ 7 ∷ 15 ∷ 7 ∷ 12 ∷ 15 ∷ 9 ∷ 11 ∷ 7 ∷ 13 ∷ 12 ∷ [])
    ++ round f3 0x6ed9eba1
    (3 ∷ 10 ∷ 14 ∷ 4 ∷ 9 ∷ 15 ∷ 8 ∷ 1 ∷ 2 ∷ 7 ∷ 0 ∷ 6 ∷ 13 ∷ 11 ∷ 5 ∷ 12 ∷ [])
    (11 ∷ 13 ∷ 6 ∷ 7 ∷ 14 ∷ 9 ∷ 13 ∷ 15 ∷ 14 ∷ 8 ∷ 13 ∷ 6 ∷ 5 ∷ 12 ∷ 7 ∷ 5 ∷ [])
    ++ round f4 0x8f1bbcdc
    (1 ∷ 9 ∷ 11 ∷ 10 ∷ 0 ∷ 8 ∷ 12 ∷ 4 ∷ 13 ∷ 3 ∷ 7 ∷ 15 ∷ 14 ∷ 5 ∷ 6 ∷ 2 ∷ [])
    (11 ∷ 12 ∷ 14 ∷ 15 ∷ 14 ∷ 15 ∷ 9 ∷ 8 ∷ 9 ∷ 14 ∷ 5 ∷ 6 ∷ 8 ∷ 6 ∷ 5 ∷ 12 ∷ [])
    ++ round f5 0xa953fd4e
    (4 ∷ 0 ∷ 5 ∷ 9 ∷ 7 ∷ 12 ∷ 2 ∷ 10 ∷ 14 ∷ 1 ∷ 3 ∷ 8 ∷ 11 ∷ 6 ∷ 15 ∷ 13 ∷ [])
    (9 ∷ 15 ∷ 5 ∷ 11 ∷ 6 ∷ 8 ∷ 13 ∷ 12 ∷ 5 ∷ 12 ∷ 13 ∷ 14 ∷ 11 ∷ 8 ∷ 5 ∷ 6 ∷ [])

-- the eighty steps of the right line
unfoldable pub right : List Step
right =
    round f5 0x50a28be6
    (5 ∷ 14 ∷ 7 ∷ 0 ∷ 9 ∷ 2 ∷ 11 ∷ 4 ∷ 13 ∷ 6 ∷ 15 ∷ 8 ∷ 1 ∷ 10 ∷ 3 ∷ 12 ∷ [])
    (8 ∷ 9 ∷ 9 ∷ 11 ∷ 13 ∷ 15 ∷ 15 ∷ 5 ∷ 7 ∷ 7 ∷ 8 ∷ 11 ∷ 14 ∷ 14 ∷ 12 ∷ 6 ∷ [])
    ++ round f4 0x5c4dd124
    (6 ∷ 11 ∷ 3 ∷ 7 ∷ 0 ∷ 13 ∷ 5 ∷ 10 ∷ 14 ∷ 15 ∷ 8 ∷ 12 ∷ 4 ∷ 9 ∷ 1 ∷ 2 ∷ [])
    (9 ∷ 13 ∷ 15 ∷ 7 ∷ 12 ∷ 8 ∷ 9 ∷ 11 ∷ 7 ∷ 7 ∷ 12 ∷ 7 ∷ 6 ∷ 15 ∷ 13 ∷ 11 ∷ [])
    ++ round f3 0x6d703ef3
    (15 ∷ 5 ∷ 1 ∷ 3 ∷ 7 ∷ 14 ∷ 6 ∷ 9 ∷ 11 ∷ 8 ∷ 12 ∷ 2 ∷ 10 ∷ 0 ∷ 4 ∷ 13 ∷ [])
    (9 ∷ 7 ∷ 15 ∷ 11 ∷ 8 ∷ 6 ∷ 6 ∷ 14 ∷ 12 ∷ 13 ∷ 5 ∷ 14 ∷ 13 ∷ 13 ∷ 7 ∷ 5 ∷ [])
    ++ round f2 0x7a6d76e9
    (8 ∷ 6 ∷ 4 ∷ 1 ∷ 3 ∷ 11 ∷ 15 ∷ 0 ∷ 5 ∷ 12 ∷ 2 ∷ 13 ∷ 9 ∷ 7 ∷ 10 ∷ 14 ∷ [])
    (15 ∷ 5 ∷ 8 ∷ 11 ∷ 14 ∷ 14 ∷ 6 ∷ 14 ∷ 6 ∷ 9 ∷ 12 ∷ 9 ∷ 12 ∷ 5 ∷ 15 ∷ 8 ∷ [])
    ++ round f1 0x00000000
    (12 ∷ 15 ∷ 10 ∷ 4 ∷ 1 ∷ 5 ∷ 8 ∷ 7 ∷ 6 ∷ 2 ∷ 13 ∷ 14 ∷ 0 ∷ 3 ∷ 9 ∷ 11 ∷ [])
    (8 ∷ 5 ∷ 12 ∷ 9 ∷ 12 ∷ 5 ∷ 14 ∷ 6 ∷ 8 ∷ 13 ∷ 6 ∷ 5 ∷ 15 ∷ 13 ∷ 11 ∷ 11 ∷ [])

-- a step on the five words A to E, with the block's words x:
--     T := rotated (A + f(B, C, D) + x[place] + constant) + E
--     A := E;  E := D;  D := C rotated by 10;  C := B;  B := T
abbrev pub stepped : List ℕ → Words → Step → Words
stepped x v step = record {
  a = v.e;
  b = add (rotate_left w32 (add (add (add v.a (step.function v.b v.c v.d)) (slice_index x step.place)) step.constant)
      step.turn) v.e;
  c = v.b;
  d = rotate_left w32 v.c 10;
  e = v.d;
}

-- the five words after some steps
unfoldable pub after : List ℕ → List Step → Words → Words
after x steps v = fold (stepped x) v steps

-- the new chaining words, from the old ones and what the two lines made of them
abbrev pub joined : Words → Words → Words → Words
joined h l r = record {
  a = add (add h.b l.c) r.d;
  b = add (add h.c l.d) r.e;
  c = add (add h.d l.e) r.a;
  d = add (add h.e l.a) r.b;
  e = add (add h.a l.b) r.c;
}

-- the chaining words after one more block of sixteen words
unfoldable pub compressed : Words → List ℕ → Words
compressed h x = joined h (after x left h) (after x right h)

-- ---- a message

-- the first `count` pieces of `size` elements each
unfoldable pub pieces : ℕ → ℕ → List ℕ → List (List ℕ)
pieces size zero xs = []
pieces size (suc count) xs = take size xs ∷ pieces size count (drop size xs)

-- the sixteen words of a block of 64 bytes, low byte first
abbrev pub words : List ℕ → List ℕ
words block = map (from_le_bytes w32) (pieces 4 16 block)

-- the whole blocks of a list of bytes
abbrev pub blocks : List ℕ → List (List ℕ)
blocks bytes = map words (pieces 64 (length bytes / 64) bytes)

-- h0 to h4 at the start
abbrev pub initial : Words
initial = record { a = 0x67452301; b = 0xefcdab89; c = 0x98badcfe; d = 0x10325476; e = 0xc3d2e1f0 }

-- the chaining words after the whole blocks of a list of bytes
unfoldable pub chained : List ℕ → Words
chained bytes = fold compressed initial (blocks bytes)

-- what follows a message of n bytes: the byte 0x80, the fewest zero bytes that bring the length to
-- 56 modulo 64, and the message's length in bits, modulo 2 ^ 64, as eight bytes, low byte first
abbrev pub padding : ℕ → List ℕ
padding n = 0x80 ∷ replicate ((119 - n % 64) % 64) 0 ++ to_le_bytes w64 (n * 8 % 2 ^ 64)

abbrev pub padded : List ℕ → List ℕ
padded message = message ++ padding (length message)

-- five chaining words as bytes, low byte first
abbrev pub bytes_of : Words → List ℕ
bytes_of h = flat_map (to_le_bytes w32) (h.a ∷ h.b ∷ h.c ∷ h.d ∷ h.e ∷ [])

-- the digest of a message: twenty bytes
unfoldable pub ripemd160 : List ℕ → List ℕ
ripemd160 message = bytes_of (chained (padded message))
