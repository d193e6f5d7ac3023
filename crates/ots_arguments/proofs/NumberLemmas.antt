-- Words that are the decimal text of a number.
use Rattle.std.proofs.Common.{◌≡◌, ◌<◌, ◌^◌, ◌≤◌, ◌&&◌, ℕ, Bool, true, false, List, Some, None, Result, Option, bytes_eq, not, le-leb, leb-true, refl, sym, ap, ◌∙◌, arith}
use Rattle.std.specs.Prelude.{decimal, nat_le, if◌then◌else◌}
use Rattle.std.specs.Result.{result_ok}
use Rattle.std.specs.Str.Parse.{ParsesUnsigned, digits_value}
use Rattle.std.proofs.lemmas.Fmt.{decimal_is_IsNumeral, parse-decimal}
use Rattle.std.specs.Cmp.Lexicographic.{bytes_decides}
use Rattle.ots_arguments.specs.Values.{number}

-- whether bytes and a number are those that the definition wants
chosen : (same least most : Bool) (n : ℕ) → same ≡ true → least ≡ true → most ≡ true → (if same && (least && most) then Some n else None) ≡ Some n
chosen true true true n s t u = refl
chosen true true false n s t u = cc
chosen true false most n s t u = cc
chosen false least most n s t u = cc

passed : (same least most : Bool) (n : ℕ) → ((same ≡ true) → (least ≡ true) → (most ≡ true) → ⊥) → (if same && (least && most) then Some n else None) ≡ None
passed true true true n never = absurd (never refl refl refl)
passed true true false n never = refl
passed true false most n never = refl
passed false least most n never = refl

pub is_number : (least most n : ℕ) (word : List ℕ) → most < 2 ^ 64 → least ≤ n → n ≤ most → bytes_eq (decimal n) word ≡ true → Some n ≡ number least most word
unfolding number
is_number least most n word fits low high same =
    let is : decimal n ≡ word = (bytes_decides (decimal n) word).0 same in
    let value : digits_value 10 word ≡ n = ap (digits_value 10) (sym is) ∙ (decimal_is_IsNumeral n (omega arith)).1 in
    rw value (sym (chosen (bytes_eq (decimal n) word) (nat_le least n) (nat_le n most) n same (le-leb least n low) (le-leb n most high)))

no_number : (least most : ℕ) (word : List ℕ) → ((n : ℕ) → least ≤ n → n ≤ most → decimal n ≡ word → ⊥) → None ≡ number least most word
unfolding number
no_number least most word never = sym (passed (bytes_eq (decimal (digits_value 10 word)) word) (nat_le least (digits_value 10 word)) (nat_le (digits_value 10 word) most) (digits_value 10 word)
    (λ same low high. never (digits_value 10 word) (leb-true least (digits_value 10 word) low) (leb-true (digits_value 10 word) most high)
    ((bytes_decides (decimal (digits_value 10 word)) word).0 same)))

-- the text of a number is read as that number
module _ {E : Type 0} (least most : ℕ) (word : List ℕ) (r : Result ℕ E) (fits : most < 2 ^ 64) (reads : ParsesUnsigned 64 10 word r) (read : Option ℕ) (is : read ≡ result_ok r) where
  read_as : (n : ℕ) → n ≤ most → decimal n ≡ word → read ≡ Some n
  read_as n high same = is ∙ ap result_ok (parse-decimal 64 n word r (omega (arith, fits)) (omega (arith, fits)) (sym same) reads)

  pub not_read : read ≡ None → None ≡ number least most word
  not_read none = no_number least most word (λ n low high same. let clash : None ≡ Some n = sym none ∙ read_as n high same in absurd cc)

  pub read_otherwise : (m : ℕ) → read ≡ Some m → (least ≤ m → m ≤ most → decimal m ≡ word → ⊥) → None ≡ number least most word
  read_otherwise m some never = no_number least most word (λ n low high same.
      let one : Some m ≡ Some n = sym some ∙ read_as n high same in
      let equal : n ≡ m = cc in
      never (omega (arith, equal)) (omega (arith, equal)) (ap decimal (sym equal) ∙ same))

pub another : (text word : List ℕ) (differs : Bool) → differs ≡ not (bytes_eq text word) → differs ≡ true → text ≡ word → ⊥
another text word differs is holds same = let equal : bytes_eq text word ≡ true = (bytes_decides text word).1 same in absurd cc

pub the_same : (text word : List ℕ) (differs : Bool) → differs ≡ not (bytes_eq text word) → differs ≡ false → bytes_eq text word ≡ true
the_same text word differs is none = by (bytes_eq text word) refl
  where
    by : (b : Bool) → bytes_eq text word ≡ b → b ≡ true
    by true e = refl
    by false e = absurd (let clash : false ≡ true = sym none ∙ is ∙ ap not e in cc)
