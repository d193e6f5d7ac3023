-- Blocks of bytes: a key that fills one, masks, and what is put one after the other.
use Rattle.std.proofs.Common.{◌≡◌, ◌+◌, ◌-◌, ◌<◌, ℕ, zero, suc, refl, List, [], ◌∷◌, ◌++◌, length, take, drop, replicate, get_or, set, ap, sym, ◌∙◌, arith}
use Rattle.std.specs.Prelude.{bit_xor}
use Rattle.std.proofs.lemmas.List.{drop-replicate, take_more_set, take_more, map-append, drop-set-lt, drop-drop, take_all, append-nil, length-drop}
use Rattle.ots_round.specs.Hmac.{filled, masked}

pub filled_block : (prefix key : List ℕ) → prefix ≡ key → prefix ++ drop (length key) (replicate {A = ℕ} 64 0) ≡ filled key
filled_block prefix key same = (λ i. same i ++ drop-replicate (length key) 64 0 i)

-- ---- masked bytes, one after another

first : (l : List ℕ) (i : ℕ) → get_or (drop i l) 0 0 ≡ get_or l i 0
first l zero = refl
first [] (suc i) = refl
first (x ∷ l) (suc i) = first l i

pub masked_more : (mask place : ℕ) (bytes block : List ℕ) → place < length block → length bytes ≡ length block
    → take place bytes ≡ masked mask (take place block) → drop place bytes ≡ drop place block
    → take (place + 1) (set bytes place (bit_xor (get_or bytes place 0) mask)) ≡ masked mask (take (place + 1) block)
masked_more mask place bytes block less long done rest =
    let same : get_or bytes place 0 ≡ get_or block place 0 = sym (first bytes place) ∙ ap (λ (l : List ℕ). get_or l 0 0) rest ∙ first block place in
    take_more_set bytes place (bit_xor (get_or bytes place 0) mask) (omega arith)
    ∙ (λ i. done i ++ bit_xor (same i) mask ∷ [])
    ∙ sym (map-append (λ (byte : ℕ). bit_xor byte mask) (take place block) (get_or block place 0 ∷ []))
    ∙ ap (masked mask) (sym (take_more block place 0 less))

pub rest_more : (place y : ℕ) (bytes block : List ℕ) → place < length bytes → drop place bytes ≡ drop place block → drop (place + 1) (set bytes place y) ≡ drop (place + 1) block
rest_more place y bytes block less rest =
    drop-set-lt (place + 1) bytes place y (omega arith) ∙ sym (drop-drop 1 place bytes) ∙ ap (drop 1) rest ∙ drop-drop 1 place block

-- ---- a commitment out of its parts

pub joined : (b1 b2 s h : List ℕ) → length s ≡ 36 → length b2 ≡ 44 → length (take 8 h) ≡ 8 → take (0 + length s) b1 ≡ s
    → take (36 + length (take 8 h)) b2 ≡ take 36 b1 ++ take 8 h → b2 ≡ s ++ take 8 h
joined b1 b2 s h ls lb lh first second =
    let prefix : take 36 b1 ≡ s = ap (λ (n : ℕ). take n b1) (let n : 36 ≡ 0 + length s = omega arith in n) ∙ first in
    sym (take_all (36 + length (take 8 h)) b2 (omega arith)) ∙ second ∙ ap (λ (l : List ℕ). l ++ take 8 h) prefix

-- a block is filled by itself
pub whole_block : (block : List ℕ) → length block ≡ 64 → filled block ≡ block
whole_block block long = ap (λ (n : ℕ). block ++ replicate {A = ℕ} n 0) (let none : 64 - length block ≡ 0 = omega arith in none) ∙ append-nil block

pub rest_of : (c : List ℕ) → length c ≡ 44 → take 8 (drop 36 c) ≡ drop 36 c
rest_of c long = take_all 8 (drop 36 c) (omega (arith, length-drop 36 c))
