-- What a number is read of.
use Rattle.std.proofs.Common.{◌≡◌, ◌<◌, ◌≤◌, ◌^◌, ◌&&◌, ℕ, Bool, true, false, List, Option, Some, None, refl, sym, ap, subst, ◌∙◌}
use Rattle.std.specs.Prelude.{decimal, MatchOption, if◌then◌else◌}
use Rattle.std.specs.Str.{IsUtf8}
use Rattle.std.specs.Str.Parse.{digits_value}
use Rattle.std.specs.Cmp.Lexicographic.{bytes_decides}
use Rattle.std.proofs.lemmas.Fmt.{IsAscii-decimal}
use Rattle.std.proofs.lemmas.Str.{IsUtf8-from_ascii}
use Rattle.ots_arguments.specs.Values.{number}
use Rattle.ots_arguments.proofs.NumberLemmas.{is_number}

taken : (same range : Bool) (n m : ℕ) → (if same && range then Some n else None) ≡ Some m → (same ≡ true) × (n ≡ m)
taken true true n m is = (refl, cc)
taken true false n m is = absurd cc
taken false range n m is = absurd cc

is_decimal : (least most n : ℕ) (word : List ℕ) → Some n ≡ number least most word → word ≡ decimal n
unfolding number
is_decimal least most n word is =
    let h = taken _ _ (digits_value 10 word) n (sym is) in
    sym ((bytes_decides (decimal (digits_value 10 word)) word).0 h.0) ∙ ap decimal h.1

-- the word is the number's text, or that of none within the bounds
pub number_read : (least most : ℕ) (word : List ℕ) (read : Option ℕ) → most < 2 ^ 64 → read ≡ number least most word
    → MatchOption read ((n : ℕ) → least ≤ n → n ≤ most → word ≡ decimal n → ⊥) (λ n. word ≡ decimal n)
number_read least most word (Some n) fits is = is_decimal least most n word is
number_read least most word None fits is = λ n low high text.
    let some : Some n ≡ number least most word = is_number least most n word fits low high ((bytes_decides (decimal n) word).1 (sym text)) in
    let clash : None ≡ Some n = is ∙ sym some in
    absurd cc

-- what is no UTF-8 is no number's text
pub no_text : (n : ℕ) (word : List ℕ) → n < 2 ^ 64 → ¬ IsUtf8 word → word ≡ decimal n → ⊥
no_text n word fits none is = none (subst IsUtf8 (sym is) (IsUtf8-from_ascii (decimal n) (IsAscii-decimal n fits)))
