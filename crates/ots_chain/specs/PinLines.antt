-- The text of a pin, as a form of lines.
use Rattle.std.specs.Prelude.{◌≡◌, ◌+◌, ◌^◌, ◌<◌, ℕ, zero, suc, true, List, [], ◌∷◌, ◌++◌, map}
use Rattle.std.specs.Prelude.{length, reverse, decimal, Ok}
use Rattle.std.specs.Int.Digits.{digits_of}
use Rattle.std.proofs.Common.{◌∙◌, ap, sym, subst, arith, lit≤, lit<, length-append}
use Rattle.std.proofs.lemmas.Fmt.{decimal-digits_of, decimal_digit, decimal_injective, length-decimal-le}
use Rattle.std.proofs.lemmas.List.{length-reverse, reverse-reverse}
use Rattle.hex.specs.Hex.{IsBytes, decode_of, encode_lower, is_hex_digit, lower_digits}
use Rattle.hex.proofs.HexLemmas.{decode_of-encode_lower, decode_of-ok, decode_of-same, length-encode_with}
use Rattle.ots_inputs.specs.Lines.{IsForm}
use Rattle.ots_inputs.specs.declared.lines.LinesError.{LinesError}
use Rattle.ots_inputs.specs.declared.lines.LinesError.TheVariants as lines
use Rattle.ots_inputs.proofs.Lining.{HasNo, none_by_places, same_until}
use Rattle.ots_chain.specs.declared.pins.TheConstants.{MAX_LINE, MAX_PINS}
use Rattle.ots_chain.specs.declared.pins.Pin.{Pin}
use Rattle.ots_chain.specs.declared.pins.PinsError.{PinsError}
use Rattle.ots_chain.specs.declared.pins.PinsError.TheVariants.{ReadFault, BadPins, OutOfMemory}
use Rattle.ots_chain.specs.Pins.{IsPin}
use Rattle.ots_chain.specs.Reversed.{bytes_reverse}

-- the same error of pins
abbrev pub as_pins : LinesError → PinsError
as_pins lines.ReadFault = ReadFault
as_pins (lines.BadLine number) = BadPins number
as_pins lines.OutOfMemory = OutOfMemory

-- ---- the text of a pin is a form of lines

-- no mark below the digit 0 is in a number's text
pub none_in_decimal : (mark n : ℕ) → mark < 48 → n < 2 ^ 64 → HasNo mark (decimal n)
none_in_decimal mark zero low fits =
    subst (HasNo mark) (sym (decimal_digit 0 (lit< tt))) ((λ same. absurd (omega (arith, low, same))), tt)
none_in_decimal mark (suc n) low fits =
    subst (HasNo mark) (sym (decimal-digits_of (suc n) (omega arith) fits)) (none (digits_of 10 (suc n)))
  where
    none : (digits : List ℕ) → HasNo mark (map (λ d. 48 + d) digits)
    none [] = tt
    none (d ∷ digits) = ((λ same. absurd (omega (arith, low, same))), none digits)

pub decoded : (hash : List ℕ) → IsBytes hash → decode_of (encode_lower (reverse hash)) ≡ Ok (reverse hash)
decoded hash bytes = decode_of-encode_lower (reverse hash) (bytes_reverse hash bytes)

none_in_hash : (hash : List ℕ) → IsBytes hash → HasNo 10 (encode_lower (reverse hash))
none_in_hash hash bytes =
    let digits = (decode_of-ok (encode_lower (reverse hash)) (reverse hash) (decoded hash bytes)).1 in
    none_by_places 10 (encode_lower (reverse hash)) (λ k less same.
    let digit : is_hex_digit 10 ≡ true = sym (ap is_hex_digit same) ∙ digits k 0 less in
    absurd cc)

none_in_both : (mark : ℕ) (first second : List ℕ) → HasNo mark first → HasNo mark second → HasNo mark (first ++ second)
none_in_both mark [] second none nil = nil
none_in_both mark (b ∷ first) second none nil = (none.0, none_in_both mark first second none.1 nil)

pin_short : (line : List ℕ) (pin : Pin) → IsPin line pin → length line < MAX_LINE
pin_short line pin is =
    let height = is.height in
    let digits = length-decimal-le 19 pin.height (omega arith) (omega (arith, height)) (omega (arith, height)) in
    let hash = length-encode_with lower_digits (reverse pin.hash) in
    let both = ap length is.text ∙ length-append (decimal pin.height) (32 ∷ encode_lower (reverse pin.hash)) in
    omega (arith, digits, hash, length-reverse pin.hash, is.long, both)

pin_no_end : (line : List ℕ) (pin : Pin) → IsPin line pin → HasNo 10 line
pin_no_end line pin is =
    let height = is.height in
    let none = none_in_decimal 10 pin.height (lit< tt) (omega (arith, height)) in
    subst (HasNo 10) (sym is.text) (none_in_both 10 (decimal pin.height) (32 ∷ encode_lower (reverse pin.hash)) none
    ((λ same. absurd (omega (arith, same))), none_in_hash pin.hash is.bytes))

same_hash : (first second : List ℕ) → IsBytes first → IsBytes second
    → encode_lower (reverse first) ≡ encode_lower (reverse second) → first ≡ second
same_hash first second bytes others same =
    let shown = decode_of-same (encode_lower (reverse second)) (reverse first) (reverse second)
    (ap decode_of (sym same) ∙ decoded first bytes) (decoded second others) in
    sym (reverse-reverse first) ∙ ap reverse shown ∙ reverse-reverse second

one_pin : (line : List ℕ) (first second : Pin) → IsPin line first → IsPin line second → first ≡ second
one_pin line first second f g =
    let low = f.height in
    let high = g.height in
    let none = none_in_decimal 32 first.height (lit< tt) (omega (arith, low)) in
    let nil = none_in_decimal 32 second.height (lit< tt) (omega (arith, high)) in
    let texts = same_until 32 (decimal first.height) (decimal second.height) (encode_lower (reverse first.hash))
    (encode_lower (reverse second.hash)) none nil (sym f.text ∙ g.text) in
    let heights = decimal_injective first.height second.height (omega (arith, low)) (omega (arith, high)) texts.0 in
    let hashes = same_hash first.hash second.hash f.bytes g.bytes texts.1 in
    λ i. record { height = heights i; hash = hashes i }

pub pin_form : IsForm IsPin MAX_LINE MAX_PINS
pin_form = record {
  short = pin_short;
  no_end = pin_no_end;
  one = one_pin;
  some = lit≤ tt;
  fits = lit≤ tt;
  few = lit< tt;
}
