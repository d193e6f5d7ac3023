-- The words of a line: no byte of theirs is a blank or a line feed.
use Rattle.std.proofs.Common.{◌≡◌, ◌≢◌, ◌<◌, ◌≤◌, ◌-◌, ◌/◌, ◌%◌, ◌⊎◌, ℕ, zero, suc, List, [], ◌∷◌, ◌++◌, length, take, drop, get_or, refl, sym, ap, ◌∙◌, arith, inl, inr, lit<}
use Rattle.std.specs.List.{AllByRecursion}
use Rattle.std.proofs.lemmas.Bool.Decides.{leb_tells}
use Rattle.std.proofs.lemmas.List.{get_or_past, append_assoc}
use Rattle.std.proofs.Math.Seq.{take-add}
use Rattle.hex.specs.Hex.{IsBytes, decode_of, encode_lower, encode_with, lower_digits}
use Rattle.hex.proofs.HexLemmas.{decode_of-encode_lower, decode_of-same}
use Rattle.ots_calendar_url.proofs.Bytes.{Above}
use Rattle.ots_sheet.specs.declared.request.Kind.{Kind}
use Rattle.ots_sheet.specs.declared.request.Kind.TheVariants.{Get, Post}
use Rattle.ots_sheet.specs.Request.{kind_word}

-- ---- bytes above the blank

pub le_or_lt : (a b : ℕ) → (a ≤ b) ⊎ (b < a)
le_or_lt a b = elim (leb_tells a b) [ inl p ↦ inl p.1 | inr q ↦ inr q.1 ]

abbrev pub HasNo : ℕ → List ℕ → Type 0
HasNo mark = AllByRecursion (λ b. b ≢ mark)

pub above_none : (mark : ℕ) (bytes : List ℕ) → mark ≤ 32 → Above bytes → HasNo mark bytes
above_none mark [] low above = tt
above_none mark (b ∷ bytes) low above = (let more = above.0 in λ is. absurd (omega (arith, more, is, low)), above_none mark bytes low above.1)

pub none_in_both : (mark : ℕ) (a b : List ℕ) → HasNo mark a → HasNo mark b → HasNo mark (a ++ b)
none_in_both mark [] b p q = q
none_in_both mark (x ∷ a) b p q = (p.0, none_in_both mark a b p.1 q)

-- what comes up to the first mark is the same
pub same_until : (mark : ℕ) (first second rest more : List ℕ) → HasNo mark first → HasNo mark second → first ++ mark ∷ rest ≡ second ++ mark ∷ more
    → (first ≡ second) × (rest ≡ more)
same_until mark [] [] rest more none nil same = (refl, ap (λ (z : List ℕ). drop 1 z) same)
same_until mark [] (b ∷ second) rest more none nil same = absurd (nil.0 (sym (ap (λ (z : List ℕ). get_or z 0 0) same)))
same_until mark (b ∷ first) [] rest more none nil same = absurd (none.0 (ap (λ (z : List ℕ). get_or z 0 0) same))
same_until mark (b ∷ first) (c ∷ second) rest more none nil same =
    let tails = same_until mark first second rest more none.1 nil.1 (ap (λ (z : List ℕ). drop 1 z) same) in
    let heads : b ≡ c = ap (λ (z : List ℕ). get_or z 0 0) same in
    (ap (λ (z : ℕ). z ∷ first) heads ∙ ap (λ (z : List ℕ). c ∷ z) tails.0, tails.1)

-- ---- hexadecimal digits

pub encode-append : (xs ys : List ℕ) → encode_lower (xs ++ ys) ≡ encode_lower xs ++ encode_lower ys
unfolding encode_with
encode-append [] ys = refl
encode-append (x ∷ xs) ys = ap (λ (z : List ℕ). encode_lower (x ∷ []) ++ z) (encode-append xs ys)

-- the digits up to an end, by those up to an earlier place
pub encode-take : (at end : ℕ) (bytes : List ℕ) → at ≤ end
    → encode_lower (take at bytes) ++ encode_lower (take (end - at) (drop at bytes)) ≡ encode_lower (take end bytes)
encode-take at end bytes le =
    sym (encode-append (take at bytes) (take (end - at) (drop at bytes)))
    ∙ ap encode_lower (sym (take-add at (end - at) bytes) ∙ ap (λ (z : ℕ). take z bytes) (omega (arith, le)))

-- no bytes have no digits
pub encode-nothing : [] ≡ encode_lower []
unfolding encode_with
encode-nothing = refl

pub came_more : (start old new bytes : List ℕ) (at end : ℕ) → at ≤ end → old ≡ start ++ encode_lower (take at bytes)
    → new ≡ old ++ encode_lower (take (end - at) (drop at bytes)) → new ≡ start ++ encode_lower (take end bytes)
came_more start old new bytes at end le was is =
    is ∙ ap (λ (z : List ℕ). z ++ encode_lower (take (end - at) (drop at bytes))) was
    ∙ append_assoc start (encode_lower (take at bytes)) (encode_lower (take (end - at) (drop at bytes)))
    ∙ ap (λ (z : List ℕ). start ++ z) (encode-take at end bytes le)

pub above_at : (xs : List ℕ) (k : ℕ) → Above xs → k < length xs → 32 < get_or xs k 0
above_at [] k above less = absurd (omega (arith, less))
above_at (x ∷ xs) zero above less = above.0
above_at (x ∷ xs) (suc k) above less = above_at xs k above.1 (omega (arith, less))

abbrev above_digits : Above lower_digits
above_digits = (lit< tt, (lit< tt, (lit< tt, (lit< tt, (lit< tt, (lit< tt, (lit< tt, (lit< tt, (lit< tt, (lit< tt, (lit< tt, (lit< tt, (lit< tt, (lit< tt, (lit< tt, (lit< tt, tt))))))))))))))))

pub digit_above : (k : ℕ) → k < 16 → 32 < get_or lower_digits k 0
digit_above k less = above_at lower_digits k above_digits less

pub above_hex : (xs : List ℕ) → IsBytes xs → Above (encode_lower xs)
unfolding encode_with
above_hex [] bytes = tt
above_hex (x ∷ xs) bytes =
    let byte : x < 256 = bytes 0 in
    (digit_above (x / 16) (omega (arith, byte)), (digit_above (x % 16) (omega (arith, byte)), above_hex xs (λ i. bytes (suc i))))

-- no line feed is among digits, nor in place of one that is none
digit_none : (k : ℕ) → get_or lower_digits k 0 ≢ 10
digit_none k is = elim (le_or_lt 16 k) [
  | inl past ↦ let none = get_or_past lower_digits k 0 past in absurd (omega (arith, none, is))
  | inr less ↦ let above = digit_above k less in absurd (omega (arith, above, is))
]

pub none_in_hex : (xs : List ℕ) → HasNo 10 (encode_lower xs)
unfolding encode_with
none_in_hex [] = tt
none_in_hex (x ∷ xs) = (digit_none (x / 16), (digit_none (x % 16), none_in_hex xs))

pub same_bytes : (xs ys : List ℕ) → IsBytes xs → IsBytes ys → encode_lower xs ≡ encode_lower ys → xs ≡ ys
same_bytes xs ys bytes others same =
    decode_of-same (encode_lower ys) xs ys (ap decode_of (sym same) ∙ decode_of-encode_lower xs bytes) (decode_of-encode_lower ys others)

-- ---- a kind

pub above_kind : (kind : Kind) → Above (kind_word kind)
above_kind Get = (lit< tt, (lit< tt, (lit< tt, tt)))
above_kind Post = (lit< tt, (lit< tt, (lit< tt, (lit< tt, tt))))
