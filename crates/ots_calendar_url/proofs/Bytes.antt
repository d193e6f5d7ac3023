-- The bytes of a URL are above the blank, and few.
use Rattle.std.proofs.Common.{◌<◌, ◌≤◌, ◌^◌, ◌+◌, ℕ, suc, List, [], ◌∷◌, ◌++◌, length, map, get_or, sym, subst, arith, inl, inr, IsTrue, lit<, ap, length-append}
use Rattle.std.specs.Prelude.{decimal}
use Rattle.std.specs.List.{AllByRecursion}
use Rattle.std.specs.Int.Digits.{digits_of}
use Rattle.std.proofs.lemmas.Bool.Decides.{nat_tests}
use Rattle.std.proofs.lemmas.Fmt.{decimal-digits_of, length-decimal-le}
use Rattle.ots_address.specs.Address.{IsPortPart, is_host_byte}
use Rattle.ots_calendar_url.specs.declared.url.Scheme.{Scheme}
use Rattle.ots_calendar_url.specs.declared.url.Scheme.TheVariants.{Http, Https}
use Rattle.ots_calendar_url.specs.CalendarUrl.{IsUrl, scheme_text}

abbrev pub Above : List ℕ → Type 0
Above = AllByRecursion (λ b. 32 < b)

pub above_both : (a b : List ℕ) → Above a → Above b → Above (a ++ b)
above_both [] b p q = q
above_both (x ∷ a) b p q = (p.0, above_both a b p.1 q)

pub above_decimal : (n : ℕ) → 0 < n → n < 2 ^ 64 → Above (decimal n)
above_decimal n some fits = subst Above (sym (decimal-digits_of n some fits)) (all (digits_of 10 n))
  where
    all : (digits : List ℕ) → Above (map (λ d. 48 + d) digits)
    all [] = tt
    all (d ∷ digits) = (omega arith, all digits)

host_above : (b : ℕ) → IsTrue (is_host_byte b) → 32 < b
host_above b is = grind (arith, nat_tests)

above_host : (host : List ℕ) → ((k : ℕ) → k < length host → IsTrue (is_host_byte (get_or host k 0))) → Above host
above_host [] all = tt
above_host (b ∷ host) all = (host_above b (all 0 (omega arith)), above_host host (λ k less. all (suc k) (omega (arith, less))))

above_port : (after : List ℕ) (port : ℕ) → IsPortPart after port → Above after
above_port after port (inl none) = subst Above (sym none.0) tt
above_port after port (inr part) =
    let least = part.1 in let most = part.2 in
    subst Above (sym part.0) (lit< tt, above_decimal port (omega (arith, least)) (omega (arith, most)))

pub above_url : (url : List ℕ) (scheme : Scheme) → IsUrl url scheme → Above url
above_url url scheme u =
    let p = u.authority.parts in
    let rest : Above u.rest = subst Above (sym p.text) (above_both u.authority.host p.after (above_host u.authority.host p.bytes) (above_port p.after u.authority.port p.port_is)) in
    subst Above (sym u.begins) (by scheme u.rest rest)
  where
    by : (scheme : Scheme) (rest : List ℕ) → Above rest → Above (scheme_text scheme ++ rest)
    by Http rest above = (lit< tt, (lit< tt, (lit< tt, (lit< tt, (lit< tt, (lit< tt, (lit< tt, above)))))))
    by Https rest above = (lit< tt, (lit< tt, (lit< tt, (lit< tt, (lit< tt, (lit< tt, (lit< tt, (lit< tt, above))))))))

-- ---- and they are few

scheme_short : (s : Scheme) → length (scheme_text s) ≤ 8
scheme_short Http = omega arith
scheme_short Https = omega arith

port_short : (after : List ℕ) (port : ℕ) → IsPortPart after port → length after ≤ 6
port_short after port (inl none) = omega (arith, ap length none.0)
port_short after port (inr part) = let most = part.2 in omega (arith, ap length part.0, length-decimal-le 5 port (lit< tt) (omega (arith, most)) (omega (arith, most)))

pub url_short : (url : List ℕ) (s : Scheme) → IsUrl url s → length url ≤ 267
url_short url s u =
    let p = u.authority.parts in
    let most = p.greatest in
    omega (
      arith,
      ap length u.begins,
      length-append (scheme_text s) u.rest,
      scheme_short s,
      ap length p.text,
      length-append u.authority.host p.after,
      most,
      port_short p.after u.authority.port p.port_is,
    )
