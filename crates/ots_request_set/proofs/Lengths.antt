-- How many bytes lines and sheets have.
use Rattle.std.proofs.Common.{◌≡◌, ◌+◌, ◌*◌, ◌-◌, ◌/◌, ◌%◌, ◌^◌, ◌<◌, ◌≤◌, ◌↔◌, ℕ, zero, suc, List, [], ◌∷◌, ◌++◌, length, map, refl, sym, ap, subst, ◌∙◌, arith, length-append, lit<, min}
use Rattle.std.specs.Prelude.{codes, decimal}
use Rattle.std.specs.List.{sum_by}
use Rattle.std.proofs.lemmas.Fmt.{decimal_digit, decimal_step}
use Rattle.std.proofs.lemmas.List.{length-map}
use Rattle.std.proofs.lemmas.List.Sums.{sum_by-cons}
use Rattle.hex.specs.Hex.{encode_lower, lower_digits}
use Rattle.hex.proofs.HexLemmas.{length-encode_with}
use Rattle.sha2.specs.Sha256.{sha256}
use Rattle.sha2.proofs.Facts256.{length-sha256}
use Rattle.ots_sheet.specs.declared.limits.TheConstants.{MAX_LINES, MAX_SHEET}
use Rattle.ots_sheet.specs.Request.{RequestParts, blank, kind_word, request_line}
use Rattle.ots_sheet.specs.Sheet.{FitsSheet, lines_text, sum_line}
use Rattle.ots_sheet.proofs.Lines.{lines_append}
use Rattle.ots_request_set.specs.inner.Key.{all_length, line_length, sum_line_length}

pub line_long : (r : RequestParts) → length (request_line r) + 1 ≡ line_length r
line_long r =
    omega (
      arith,
      length-append (kind_word r.kind) (blank ∷ (r.url ++ blank ∷ encode_lower r.message)),
      length-append r.url (blank ∷ encode_lower r.message),
      length-encode_with lower_digits r.message,
    )

pub all_long : (rs : List RequestParts) → all_length rs ≡ sum_by line_length rs
all_long [] = refl
all_long (r ∷ rs) =
    omega (arith, length-append (request_line r) (10 ∷ lines_text (map request_line rs)), line_long r, all_long rs, sum_by-cons line_length r rs)

sum_long : (lines : List (List ℕ)) → length (sum_line lines) + 1 ≡ sum_line_length (length lines)
sum_long lines =
    omega (
      arith,
      length-append (codes "sum ") (decimal (length lines) ++ blank ∷ encode_lower (sha256 (lines_text lines))),
      length-append (decimal (length lines)) (blank ∷ encode_lower (sha256 (lines_text lines))),
      length-encode_with lower_digits (sha256 (lines_text lines)),
      length-sha256 (lines_text lines),
    )

sheet_long : (lines : List (List ℕ)) → length (lines_text (lines ++ sum_line lines ∷ [])) ≡ length (lines_text lines) + sum_line_length (length lines)
sheet_long lines =
    omega (
      arith,
      ap length (lines_append lines (sum_line lines ∷ [])),
      length-append (lines_text lines) (sum_line lines ++ 10 ∷ []),
      length-append (sum_line lines) (10 ∷ []),
      sum_long lines,
    )

pub record Within (count bytes : ℕ) : Type 0 where
  pub few : count < MAX_LINES
  pub small : bytes + sum_line_length count ≤ MAX_SHEET

pub fits : (rs : List RequestParts) (count bytes : ℕ) → count ≡ length rs → bytes ≡ min (all_length rs) (2 ^ 64 - 1) → Within count bytes → FitsSheet (map request_line rs)
fits rs count bytes counted is within =
    let lines = map request_line rs in
    let few = within.few in
    let small = within.small in
    let many : length lines ≡ count = length-map rs request_line ∙ sym counted in
    let long : sum_line_length (length lines) ≡ sum_line_length count = ap sum_line_length many in
    record { few = omega (arith, few, many, length-append lines (sum_line lines ∷ [])); small = omega (arith, small, is, long, sheet_long lines) }

pub fits_back : (rs : List RequestParts) (count bytes : ℕ) → count ≡ length rs → bytes ≡ min (all_length rs) (2 ^ 64 - 1) → FitsSheet (map request_line rs) → Within count bytes
fits_back rs count bytes counted is fits =
    let lines = map request_line rs in
    let few = fits.few in
    let small = fits.small in
    let many : length lines ≡ count = length-map rs request_line ∙ sym counted in
    let long : sum_line_length (length lines) ≡ sum_line_length count = ap sum_line_length many in
    record { few = omega (arith, few, many, length-append lines (sum_line lines ∷ [])); small = omega (arith, small, is, long, sheet_long lines) }

-- ---- digits

pub digits_long : (k n : ℕ) → n < 2 ^ 64 → 10 ^ k ≤ n → n < 10 * 10 ^ k → length (decimal n) ≡ k + 1
digits_long zero n fits low high = ap length (decimal_digit n (omega (arith, high)))
digits_long (suc k) n fits low high =
    let power : 10 ^ suc k ≡ 10 * 10 ^ k = omega arith in
    let least : 1 ≤ 10 ^ k = one_most k in
    omega (
      arith,
      ap length (decimal_step n (omega (arith, low, power, least)) fits),
      length-append (decimal (n / 10)) ((48 + n % 10) ∷ []),
      digits_long k (n / 10) (omega (arith, fits)) (omega (arith, low, power)) (omega (arith, high, power)),
    )
  where
    one_most : (k : ℕ) → 1 ≤ 10 ^ k
    one_most zero = omega arith
    one_most (suc k) = let power : 10 ^ suc k ≡ 10 * 10 ^ k = omega arith in omega (arith, power, one_most k)

pub no_digits : (n : ℕ) → n ≡ 0 → 1 ≡ length (decimal n)
no_digits n is = sym (ap (λ (z : ℕ). length (decimal z)) is ∙ ap length (decimal_digit 0 (lit< tt)))
