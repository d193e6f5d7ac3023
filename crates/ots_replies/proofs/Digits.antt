-- Lower-case hexadecimal digits and their bytes.
use Rattle.std.proofs.Common.{◌≡◌, ◌<◌, ◌≤◌, ◌*◌, ◌/◌, ◌%◌, ◌+◌, ◌-◌, ◌↔◌, ◌⊎◌, ℕ, zero, suc, Bool, true, false, List, [], ◌∷◌, ◌++◌, length, take, drop, get_or, refl, sym, ap, subst, ◌∙◌, arith, inl, inr, IsTrue, lit<, append-nil, length-drop, length-take}
use Rattle.std.specs.Prelude.{EachIndex, MatchResult, Result, Ok, Err, codes}
use Rattle.std.proofs.lemmas.Bool.Decides.{nat_tests}
use Rattle.std.proofs.lemmas.List.{drop_all, get_or_append_left, get_or-append_right}
use borrow.Rule.Slice.PartMut.{mid_of, put_mid}
use Rattle.hex.specs.Hex.{IsBytes, decode_sized, encode_lower, encode_with, lower_digits}
use Rattle.hex.specs.declared.error.FromHexError.{FromHexError}
use Rattle.hex.proofs.HexLemmas.{decode_sized-encode_lower, length-encode_with}
use Rattle.ots_sheet.proofs.Words.{encode-nothing, le_or_lt}
use Rattle.ots_replies.specs.inner.Shape.{IsHex, is_digit}

abbrev CountsUp : ℕ → List ℕ → Type 0
CountsUp s [] = Unit {0}
CountsUp s (x ∷ xs) = (x ≡ s) × CountsUp (s + 1) xs

counts_at : (s : ℕ) (xs : List ℕ) (k : ℕ) → CountsUp s xs → k < length xs → get_or xs k 0 ≡ s + k
counts_at s [] k up less = absurd (omega (arith, less))
counts_at s (x ∷ xs) zero up less = up.0 ∙ omega arith
counts_at s (x ∷ xs) (suc k) up less = counts_at (s + 1) xs k up.1 (omega (arith, less)) ∙ omega arith

abbrev decimals : CountsUp 48 (codes "0123456789")
decimals = (refl, (refl, (refl, (refl, (refl, (refl, (refl, (refl, (refl, (refl, tt))))))))))

abbrev letters : CountsUp 97 (codes "abcdef")
letters = (refl, (refl, (refl, (refl, (refl, (refl, tt))))))

low_digit : (k : ℕ) → k < 10 → get_or lower_digits k 0 ≡ 48 + k
low_digit k less = get_or_append_left (codes "0123456789") (codes "abcdef") 0 k less ∙ counts_at 48 (codes "0123456789") k decimals less

high_digit : (k : ℕ) → k < 6 → get_or lower_digits (10 + k) 0 ≡ 97 + k
high_digit k less =
    get_or-append_right (codes "0123456789") (codes "abcdef") 10 (10 + k) 0 refl (omega arith)
    ∙ ap (λ (z : ℕ). get_or (codes "abcdef") z 0) (omega arith) ∙ counts_at 97 (codes "abcdef") k letters less

-- ---- a digit

low_is : (c : ℕ) → 48 ≤ c → c ≤ 57 → IsTrue (is_digit c)
low_is c p q = grind (arith, nat_tests)

high_is : (c : ℕ) → 97 ≤ c → c ≤ 102 → IsTrue (is_digit c)
high_is c p q = grind (arith, nat_tests)

digit_is : (v : ℕ) → v < 16 → IsTrue (is_digit (get_or lower_digits v 0))
digit_is v less = elim (le_or_lt 10 v) [
  | inr low ↦ let at = low_digit v low in low_is (get_or lower_digits v 0) (omega (arith, at)) (omega (arith, at, low))
  | inl high ↦
      let same : 10 + (v - 10) ≡ v = omega (arith, high) in
      let at = high_digit (v - 10) (omega (arith, high, less)) in
      let here : get_or lower_digits v 0 ≡ 97 + (v - 10) = ap (λ (z : ℕ). get_or lower_digits z 0) (sym same) ∙ at in
      high_is (get_or lower_digits v 0) (omega (arith, here)) (omega (arith, here, less))
]

abbrev HasValue : ℕ → Type 0
HasValue c = (v : ℕ) × (v < 16) × (get_or lower_digits v 0 ≡ c)

range_of : (c : ℕ) → IsTrue (is_digit c) → ((48 ≤ c) × (c ≤ 57)) ⊎ ((97 ≤ c) × (c ≤ 102))
range_of c is = grind (arith, nat_tests)

value_of : (c : ℕ) → IsTrue (is_digit c) → HasValue c
value_of c is = elim (range_of c is) [
  | inl p ↦ (c - 48, (let high = p.1 in omega (arith, high)), low_digit (c - 48) (let high = p.1 in omega (arith, high)) ∙ (let low = p.0 in omega (arith, low)))
  | inr p ↦ (10 + (c - 97), (let high = p.1 in omega (arith, high)), high_digit (c - 97) (let high = p.1 in omega (arith, high)) ∙ (let low = p.0 in omega (arith, low)))
]

-- ---- all of them

bytes_more : (x : ℕ) (xs : List ℕ) → x < 256 → IsBytes xs → IsBytes (x ∷ xs)
bytes_more x xs small all zero = small
bytes_more x xs small all (suc i) = all i

no_bytes : IsBytes []
no_bytes zero = lit< tt
no_bytes (suc i) = lit< tt

pair_more : (x y : ℕ) (rest : List ℕ) → HasValue x → HasValue y → IsHex rest → IsHex (x ∷ y ∷ rest)
unfolding encode_with
pair_more x y rest h l r =
    let high = h.1 in
    let low = l.1 in
    let byte = h.0 * 16 + l.0 in
    let first : byte / 16 ≡ h.0 = omega (arith, low) in
    let second : byte % 16 ≡ l.0 = omega (arith, low) in
    record {
      bytes = byte ∷ r.bytes;
      are = bytes_more byte r.bytes (omega (arith, high, low)) r.are;
      text = λ i. (sym h.2 ∙ ap (λ (z : ℕ). get_or lower_digits z 0) (sym first)) i ∷ (sym l.2 ∙ ap (λ (z : ℕ). get_or lower_digits z 0) (sym second)) i ∷ r.text i;
    }

from_digits : (digits : List ℕ) → length digits % 2 ≡ 0 → ((k : ℕ) → k < length digits → IsTrue (is_digit (get_or digits k 0))) → IsHex digits
from_digits [] even all = record { bytes = []; are = no_bytes; text = encode-nothing }
from_digits (x ∷ []) even all = absurd (omega (arith, even))
from_digits (x ∷ y ∷ rest) even all =
    pair_more x y rest (value_of x (all 0 (omega arith))) (value_of y (all 1 (omega arith)))
    (from_digits rest (omega (arith, even)) (λ k less. all (suc (suc k)) (omega (arith, less))))

encoded : (xs : List ℕ) → IsBytes xs → (k : ℕ) → k < length (encode_lower xs) → IsTrue (is_digit (get_or (encode_lower xs) k 0))
unfolding encode_with
encoded [] bytes k less = absurd (omega (arith, less))
encoded (x ∷ xs) bytes zero less = let byte : x < 256 = bytes 0 in digit_is (x / 16) (omega (arith, byte))
encoded (x ∷ xs) bytes (suc zero) less = digit_is (x % 16) (omega arith)
encoded (x ∷ xs) bytes (suc (suc k)) less = encoded xs (λ i. bytes (suc i)) k (omega (arith, less))

pub hex_length : (digits bytes : List ℕ) → digits ≡ encode_lower bytes → length digits ≡ 2 * length bytes
hex_length digits bytes is = ap length is ∙ length-encode_with lower_digits bytes

pub are_hex : (digits : List ℕ) (r : Bool) → length digits % 2 ≡ 0 → IsTrue r ↔ EachIndex digits (λ k. IsTrue (is_digit (get_or digits k 0))) → IsTrue r ↔ IsHex digits
are_hex digits r even tests = (
  λ yes. from_digits digits even (tests.0 yes),
  λ h. tests.1 (subst (λ (z : List ℕ). EachIndex z (λ k. IsTrue (is_digit (get_or z k 0)))) (sym h.text) (encoded h.bytes h.are)),
)

pub no_truth : IsTrue false → ⊥
no_truth is = let clash : false ≡ true = is in cc

pub odd_is : (digits : List ℕ) → (length digits % 2 ≡ 0 → ⊥) → IsTrue false ↔ IsHex digits
odd_is digits odd = (λ yes. absurd (no_truth yes), λ h. absurd (odd (let long = hex_length digits h.bytes h.text in omega (arith, long))))

pub half : (digits bytes : List ℕ) → digits ≡ encode_lower bytes → length digits / 2 ≡ length bytes
half digits bytes is = let long = hex_length digits bytes is in omega (arith, long)

-- ---- bytes are written after others

matched : (r : Result (List ℕ) FromHexError) (d : Result Unit FromHexError) (out more : List ℕ) → r ≡ Ok more
    → MatchResult r (λ bytes. (d ≡ Ok tt) × (out ≡ bytes)) (λ e. d ≡ Err e) → out ≡ more
matched (Ok bytes) d out more is h = h.1 ∙ (let same : bytes ≡ more = cc in same)
matched (Err e) d out more is h = absurd cc

pub written : (bytes digits out more : List ℕ) (start : ℕ) (d : Result Unit FromHexError) → start ≤ length bytes → IsBytes more → digits ≡ encode_lower more
    → length bytes ≡ start + length more
    → MatchResult (decode_sized digits (length (mid_of start (length bytes - start) bytes))) (λ b. (d ≡ Ok tt) × (out ≡ b)) (λ e. d ≡ Err e)
    → put_mid start (length bytes - start) bytes out ≡ take start bytes ++ more
written bytes digits out more start d within are text long decodes =
    let n = length (mid_of start (length bytes - start) bytes) in
    let count : n ≡ length more = omega (arith, length-take (length bytes - start) (drop start bytes), length-drop start bytes, long) in
    let is : out ≡ more = matched (decode_sized digits n) d out more (ap (λ (z : List ℕ). decode_sized z n) text ∙ decode_sized-encode_lower more n (sym count) are) decodes in
    let none : drop (length bytes - start) (drop start bytes) ≡ [] = drop_all (length bytes - start) (drop start bytes) (omega (arith, length-drop start bytes)) in
    ap (λ (z : List ℕ). take start bytes ++ z) ((λ i. is i ++ none i) ∙ append-nil more)
