-- What is no pin's text, and pins that fail.
use Rattle.std.proofs.Common.{◌≡◌, ◌<◌, ◌≤◌, ◌^◌, ◌+◌, ◌&&◌, ℕ, Bool, true, false, List, [], ◌∷◌, length, take, drop, reverse, Option, Some, None, Result, refl, sym, ap, subst, ◌∙◌, arith, lit<, append-nil, length-append}
use Rattle.std.specs.Prelude.{decimal, Ok, Err, IfSome, MatchOption, MatchResult, OnOk, if◌then◌else◌}
use Rattle.std.specs.Result.{result_ok}
use Rattle.std.specs.Str.{IsUtf8}
use Rattle.std.specs.Str.Parse.{digits_value}
use Rattle.std.specs.Cmp.Lexicographic.{bytes_decides}
use Rattle.std.proofs.lemmas.Fmt.{IsAscii-decimal}
use Rattle.std.proofs.lemmas.Str.{IsUtf8-from_ascii}
use Rattle.std.proofs.lemmas.List.{length-reverse, reverse-reverse}
use Rattle.memchr.specs.Find.{NoneBefore, Nowhere, Passes, is_byte}
use Rattle.hex.specs.Hex.{IsBytes, decode_sized, encode_lower}
use Rattle.hex.specs.declared.error.FromHexError.{FromHexError}
use Rattle.hex.proofs.HexLemmas.{decode_of-ok, decode_sized-encode_lower, decode_sized-ok, decode_sized-twice}
use Rattle.ots_arguments.specs.Values.{number}
use Rattle.ots_arguments.proofs.NumberLemmas.{is_number}
use Rattle.ots_inputs.proofs.Lining.{before_mark, none_before, nowhere_none, same_until, split_mark}
use Rattle.ots_chain.specs.declared.pins.Pin.{Pin}
use Rattle.ots_chain.specs.Pins.{IsPin}
use Rattle.ots_chain.specs.PinLines.{none_in_decimal}
use Rattle.ots_chain.specs.Reversed.{bytes_reverse}

-- ---- what an answer came from

pub ok_case : {T E : Type 0} (P : T → Type 0) (Q : E → Type 0) (r : Result T E) (x : T) → result_ok r ≡ Some x → MatchResult r P Q → P x
ok_case P Q (Ok y) x is h = let same : y ≡ x = cc in subst P same h
ok_case P Q (Err e) x is h = absurd cc

pub err_case : {T E : Type 0} (P : T → Type 0) (Q : E → Type 0) (r : Result T E) → result_ok r ≡ None → MatchResult r P Q → (e : E) × Q e
err_case P Q (Ok y) is h = absurd cc
err_case P Q (Err e) is h = (e, h)

-- ---- the height

taken : (same range : Bool) (n m : ℕ) → (if same && range then Some n else None) ≡ Some m → (same ≡ true) × (n ≡ m)
taken true true n m is = (refl, cc)
taken true false n m is = absurd cc
taken false range n m is = absurd cc

pub is_decimal : (most n : ℕ) (word : List ℕ) → Some n ≡ number 0 most word → word ≡ decimal n
unfolding number
is_decimal most n word is =
    let h = taken _ _ (digits_value 10 word) n (sym is) in
    sym ((bytes_decides (decimal (digits_value 10 word)) word).0 h.0) ∙ ap decimal h.1

pub no_decimal : (most n : ℕ) (word : List ℕ) → most < 2 ^ 64 → n ≤ most → None ≡ number 0 most word → word ≡ decimal n → ⊥
no_decimal most n word fits high none is =
    let some : Some n ≡ number 0 most word = is_number 0 most n word fits (omega arith) high ((bytes_decides (decimal n) word).1 (sym is)) in
    let clash : None ≡ Some n = none ∙ sym some in
    absurd cc

pub no_text : (n : ℕ) (word : List ℕ) → n < 2 ^ 64 → ¬ IsUtf8 word → word ≡ decimal n → ⊥
no_text n word fits none is = none (subst IsUtf8 (sym is) (IsUtf8-from_ascii (decimal n) (IsAscii-decimal n fits)))

pub height_is : (most : ℕ) (digits word : List ℕ) (r : Option ℕ) → most < 2 ^ 64 → r ≡ number 0 most word → IfSome r (λ n. (0 ≤ n) × (n ≤ most)) → word ≡ digits
    → MatchOption r ((height : ℕ) → height ≤ most → digits ≡ decimal height → ⊥) (λ height. (height ≤ most) × (digits ≡ decimal height))
height_is most digits word None fits is within same = λ height high text. no_decimal most height word fits high is (same ∙ text)
height_is most digits word (Some n) fits is within same = (within.1, sym same ∙ is_decimal most n word is)

-- ---- the hash

module _ (digits out : List ℕ) (d : Result Unit FromHexError) (decodes : MatchResult (decode_sized digits 32) (λ bytes. (d ≡ Ok tt) × (out ≡ bytes)) (λ e. d ≡ Err e)) where
  module _ (hash : List ℕ) (long : length hash ≡ 32) (bytes : IsBytes hash) (text : digits ≡ encode_lower (reverse hash)) where
    reads : (d ≡ Ok tt) × (out ≡ reverse hash)
    reads = by (decode_sized digits 32) (ap (λ z. decode_sized z 32) text ∙ decode_sized-encode_lower (reverse hash) 32 (length-reverse hash ∙ long) (bytes_reverse hash bytes)) decodes
      where
        by : (r : Result (List ℕ) FromHexError) → r ≡ Ok (reverse hash) → MatchResult r (λ bytes. (d ≡ Ok tt) × (out ≡ bytes)) (λ e. d ≡ Err e) → (d ≡ Ok tt) × (out ≡ reverse hash)
        by (Ok bytes) is h = (h.0, h.1 ∙ (let same : bytes ≡ reverse hash = cc in same))
        by (Err e) is h = absurd cc

    pub not_refused : result_ok d ≡ None → ⊥
    not_refused none = let some = reads.0 in absurd cc

    pub same_text : (shown : List ℕ) → shown ≡ encode_lower out → shown ≡ digits
    same_text shown is = is ∙ ap encode_lower reads.1 ∙ sym text

  -- what was read is a hash
  pub hash_read : (u : Unit) → result_ok d ≡ Some u → (length out ≡ 32) × IsBytes out
  hash_read u some =
      let whole = by (decode_sized digits 32) refl decodes in
      let twice = decode_sized-ok digits 32 out whole in
      let parts = decode_of-ok digits out (sym (decode_sized-twice digits 32 twice) ∙ whole) in
      let more = parts.2 in
      (omega (arith, twice, more), parts.3)
    where
      by : (r : Result (List ℕ) FromHexError) → decode_sized digits 32 ≡ r → MatchResult r (λ bytes. (d ≡ Ok tt) × (out ≡ bytes)) (λ e. d ≡ Err e) → decode_sized digits 32 ≡ Ok out
      by (Ok bytes) is h = is ∙ ap (λ (z : List ℕ). let r : Result (List ℕ) FromHexError = Ok z in r) (sym h.1)
      by (Err e) is h = absurd cc

pub written_is : (r : Result Unit FromHexError) (u : Unit) (new text : List ℕ) → result_ok r ≡ Some u → OnOk r (new ≡ text) → new ≡ text
written_is (Ok x) u new text some h = h
written_is (Err e) u new text some h = absurd cc

pub turned : (digits out new : List ℕ) → new ≡ reverse out → digits ≡ encode_lower out → length out ≡ 32 → IsBytes out
    → (digits ≡ encode_lower (reverse new)) × (length new ≡ 32) × IsBytes new
turned digits out new is text long bytes = (
  text ∙ ap encode_lower (sym (reverse-reverse out)) ∙ ap (λ z. encode_lower (reverse z)) (sym is),
  ap length is ∙ length-reverse out ∙ long,
  subst IsBytes (sym is) (bytes_reverse out bytes),
)

-- ---- the line

pub no_space : (line : List ℕ) (pin : Pin) → Nowhere (Passes (is_byte 32) line) 0 (length line) → IsPin line pin → ⊥
no_space line pin none is =
    let short = before_mark 32 line (decimal pin.height) [] (encode_lower (reverse pin.hash)) (nowhere_none 32 line none) (append-nil line ∙ is.text) in
    absurd (omega (arith, short, ap length is.text, length-append (decimal pin.height) (32 ∷ encode_lower (reverse pin.hash))))

module _ (line : List ℕ) (space : ℕ) (none : NoneBefore (Passes (is_byte 32) line) 0 (length line) space) (passes : Passes (is_byte 32) line space) where
  pub halves : (pin : Pin) → IsPin line pin → (take space line ≡ decimal pin.height) × (drop (space + 1) line ≡ encode_lower (reverse pin.hash))
  halves pin is =
      let height = is.height in
      same_until 32 (take space line) (decimal pin.height) (drop (space + 1) line) (encode_lower (reverse pin.hash))
      (none_before 32 line space none passes) (none_in_decimal 32 pin.height (lit< tt) (omega (arith, height))) (sym (split_mark 32 line space none passes) ∙ is.text)
