-- What a URL is, by its parts.
use Rattle.std.proofs.Common.{◌≡◌, ◌<◌, ◌≤◌, ◌-◌, ◌↔◌, ℕ, Bool, true, false, List, ◌∷◌, ◌++◌, length, take, drop, get_or, Option, Some, None, refl, sym, ap, subst, ◌∙◌, arith, inl, inr, IsTrue, length-drop, lit<}
use Rattle.std.specs.Prelude.{codes, decimal, bytes_eq, is_some, IfSome}
use Rattle.std.specs.Str.{IsUtf8}
use Rattle.std.specs.Cmp.Lexicographic.{bytes_decides}
use Rattle.std.proofs.lemmas.List.{drop_at, take_all, take_at, take-append-drop}
use Rattle.ots_address.specs.Address.{IsPortPart, colon, is_host_byte}
use Rattle.ots_address.proofs.AddressLemmas.{after_host, host_ends, parts_there}
use Rattle.ots_arguments.specs.Values.{number}
use Rattle.ots_calendar_url.specs.declared.url.Scheme.{Scheme}
use Rattle.ots_calendar_url.specs.declared.url.Scheme.TheVariants.{Http, Https}
use Rattle.ots_calendar_url.specs.CalendarUrl.{BeginsUrl, IsAuthority, IsUrl}
use Rattle.ots_calendar_url.specs.inner.Authority.{EndsAuthority, IsPort}
use Rattle.ots_calendar_url.proofs.Numbers.{no_text, number_read}

pub no_truth : IsTrue false → ⊥
no_truth is = let clash : false ≡ true = is in cc

-- the byte of a text after `http`
fifth : (text rest other : List ℕ) → text ≡ codes "http://" ++ rest → text ≡ codes "https://" ++ other → ⊥
fifth text rest other http https = absurd (let clash = ap (λ (z : List ℕ). get_or z 4 0) (sym http ∙ https) in omega (arith, clash))

pub same_scheme : (text : List ℕ) (first second : Scheme) → IsUrl text first → IsUrl text second → first ≡ second
same_scheme text Http Http p q = refl
same_scheme text Http Https p q = absurd (fifth text p.rest q.rest p.begins q.begins)
same_scheme text Https Http p q = absurd (fifth text q.rest p.rest q.begins p.begins)
same_scheme text Https Https p q = refl

-- ---- a word, and then a host and maybe a port

module _ (bytes word : List ℕ) where
  pub begins : (rest : List ℕ) (r : Bool) → bytes_eq (take (length word) bytes) word ≡ true → rest ≡ drop (length word) bytes → IsTrue r ↔ IsAuthority rest
      → IsTrue r ↔ BeginsUrl bytes word
  begins rest r same is tests = (
    λ yes. record {
      rest = rest;
      begins = sym (take-append-drop (length word) bytes) ∙ (λ i. (bytes_decides (take (length word) bytes) word).0 same i ++ sym is i);
      authority = tests.0 yes;
    },
    λ u. tests.1 (subst IsAuthority (sym (is ∙ ap (drop (length word)) u.begins ∙ drop_at word u.rest (length word) refl)) u.authority),
  )

  pub begins_not : bytes_eq (take (length word) bytes) word ≡ false → BeginsUrl bytes word → ⊥
  begins_not other u =
      let same : bytes_eq (take (length word) bytes) word ≡ true =
      (bytes_decides (take (length word) bytes) word).1 (ap (take (length word)) u.begins ∙ take_at word u.rest (length word) refl) in
      absurd cc

-- ---- a host and maybe a port

module _ (bytes : List ℕ) (h : ℕ) (within : h ≤ length bytes) (all : (k : ℕ) → k < h → IsTrue (is_host_byte (get_or bytes k 0))) where
  pub no_host : (h < length bytes → IsTrue (is_host_byte (get_or bytes h 0)) → ⊥) → (1 ≤ h → h ≤ 253 → ⊥) → IsAuthority bytes → ⊥
  no_host next none a =
      let p = a.parts in
      let ends = host_ends bytes a.host a.port h p within all next in
      let least = p.least in
      let greatest = p.greatest in
      none (omega (arith, ends, least)) (omega (arith, ends, greatest))

  pub authority : (after : List ℕ) (r : Bool) → after ≡ take (length bytes - h) (drop h bytes) → 1 ≤ h → h ≤ 253
      → (h < length bytes → IsTrue (is_host_byte (get_or bytes h 0)) → ⊥) → IsTrue r ↔ EndsAuthority after → IsTrue r ↔ IsAuthority bytes
  authority after r is least greatest next tests =
      let rest : after ≡ drop h bytes = is ∙ take_all (length bytes - h) (drop h bytes) (omega (arith, length-drop h bytes)) in (
        λ yes. from (subst EndsAuthority rest (tests.0 yes)),
        λ a. tests.1 (subst EndsAuthority (sym is) (back a.port (after_host bytes a.host a.port h a.parts (host_ends bytes a.host a.port h a.parts within all next)))),
      )
    where
      from : EndsAuthority (drop h bytes) → IsAuthority bytes
      from (inl none) = record { host = take h bytes; port = 80; parts = parts_there bytes h 80 least greatest within all (inl (none, refl)) }
      from (inr part) =
          let p = part.2 in
          record {
            host = take h bytes;
            port = p.port;
            parts = parts_there bytes h p.port least greatest within all
                (inr (part.1 ∙ ap (λ (z : List ℕ). colon ∷ z) p.text, p.least, p.greatest));
          }

      back : {after : List ℕ} (port : ℕ) → IsPortPart after port → EndsAuthority after
      back port (inl none) = inl none.0
      back port (inr part) = inr (decimal port, part.0, record { port = port; text = refl; least = part.1; greatest = part.2 })

-- ---- a port

pub port_read : (digits word : List ℕ) (read : Option ℕ) (r : Bool) → word ≡ digits → read ≡ number 1 65535 word → IfSome read (λ n. (1 ≤ n) × (n ≤ 65535))
    → r ≡ is_some read → IsTrue r ↔ IsPort digits
port_read digits word None r same is within tests = (
  λ yes. absurd (no_truth (subst IsTrue tests yes)),
  λ p. absurd (number_read 1 65535 word None (lit< tt) is p.port p.least p.greatest (same ∙ p.text)),
)
port_read digits word (Some n) r same is within tests = (
  λ yes. record { port = n; text = sym same ∙ number_read 1 65535 word (Some n) (lit< tt) is; least = within.0; greatest = within.1 },
  λ p. subst IsTrue (sym tests) refl,
)

pub no_port : (digits : List ℕ) → ¬ IsUtf8 digits → IsPort digits → ⊥
no_port digits none p = let high = p.greatest in no_text p.port digits (omega (arith, high)) none p.text
