-- The host of an address is determined.
use Rattle.std.proofs.Common.{◌≡◌, ◌+◌, ◌*◌, ◌-◌, ◌<◌, ◌≤◌, ℕ, min, true, List, [], ◌∷◌, ◌++◌, length, take, drop, get_or, refl, sym, ap, subst, ◌∙◌, arith, length-append, inl, inr, IsTrue}
use Rattle.std.specs.Prelude.{codes, decimal}
use Rattle.std.specs.Char.{digit_value}
use Rattle.std.specs.Str.Parse.{digits_value}
use Rattle.std.proofs.lemmas.Fmt.{decimal_is_IsNumeral}
use Rattle.std.proofs.lemmas.Int.Digits.{digits_value_push}
use Rattle.std.proofs.lemmas.List.{take_more, take-append-drop, get_or_append_left, get_or-take, length-take-le, length-drop, take_all, take_at, drop_at, get_or-append-add, get_or-append_right}
use Rattle.std.specs.Prelude.{bytes_eq, not, Bool, Option, Some, None, IfNone}
use Rattle.std.specs.Str.{IsCharBoundary}
use Rattle.std.specs.Cmp.Lexicographic.{bytes_decides}
use Rattle.ots_address.specs.Address.{is_host_byte, KeepsAddress, IsAddress, IsHostAndPort, IsPortPart}

pub value_more : (digits : List ℕ) (i n : ℕ) → i < length digits → n ≡ min (digits_value 10 (take i digits)) 65536
    → min (n * 10 + digit_value (get_or digits i 0)) 65536 ≡ min (digits_value 10 (take (i + 1) digits)) 65536
value_more digits i n h is =
    rw (take_more digits i 0 h, digits_value_push 10 (take i digits) (get_or digits i 0), is) (capped (digits_value 10 (take i digits)) (digit_value (get_or digits i 0)))
  where
    capped : (v d : ℕ) → min (min v 65536 * 10 + d) 65536 ≡ min (v * 10 + d) 65536
    capped v d = omega arith

-- what the digits of a port are worth
pub value_of_port : (digits : List ℕ) (port value : ℕ) → digits ≡ decimal port → port ≤ 65535 → value ≡ min (digits_value 10 digits) 65536 → value ≡ port
value_of_port digits port value is small v =
    let worth : digits_value 10 digits ≡ port = ap (digits_value 10) is ∙ (decimal_is_IsNumeral port (omega arith)).1 in
    omega (arith, v, worth)

-- the host's bytes, and the one after it
host_bytes : (rest host : List ℕ) (port : ℕ) → IsHostAndPort rest host port → (k : ℕ) → k < length host → IsTrue (is_host_byte (get_or rest k 0))
host_bytes rest host port p k less =
    subst (λ (b : ℕ). IsTrue (is_host_byte b)) (sym (ap (λ (z : List ℕ). get_or z k 0) p.text ∙ get_or_append_left host p.after 0 k less)) (p.bytes k less)

host_stops : (rest host : List ℕ) (port : ℕ) → IsHostAndPort rest host port → length host < length rest → IsTrue (is_host_byte (get_or rest (length host) 0)) → ⊥
host_stops rest host port p less is =
    other p.after (omega (arith, ap length p.text, length-append host p.after)) p.port_is
    (subst (λ (b : ℕ). IsTrue (is_host_byte b)) (ap (λ (z : List ℕ). get_or z (length host) 0) p.text ∙ following host p.after) is)
  where
    following : (host after : List ℕ) → get_or (host ++ after) (length host) 0 ≡ get_or after 0 0
    following [] after = refl
    following (x ∷ host) after = following host after

    other : (after : List ℕ) → 0 < length after → IsPortPart after port → IsTrue (is_host_byte (get_or after 0 0)) → ⊥
    other after some (inl none) is = omega (arith, ap length none.0)
    other after some (inr part) is = let no : IsTrue (is_host_byte 58) = subst (λ (z : List ℕ). IsTrue (is_host_byte (get_or z 0 0))) part.0 is in cc

-- the host ends where the first other byte stands
pub host_ends : (rest host : List ℕ) (port h : ℕ) → (p : IsHostAndPort rest host port) → h ≤ length rest
    → ((k : ℕ) → k < h → IsTrue (is_host_byte (get_or rest k 0))) → (h < length rest → IsTrue (is_host_byte (get_or rest h 0)) → ⊥) → h ≡ length host
host_ends rest host port h p within all next =
    let long : length rest ≡ length host + length p.after = ap length p.text ∙ length-append host p.after in
    let not_less : h < length host → ⊥ = λ less. next (omega arith) (host_bytes rest host port p h less) in
    let not_more : length host < h → ⊥ = λ more. host_stops rest host port p (omega arith) (all (length host) more) in
    omega (arith, not_less, not_more)

-- what follows the host
pub after_host : (rest host : List ℕ) (port h : ℕ) → (p : IsHostAndPort rest host port) → h ≡ length host → IsPortPart (take (length rest - h) (drop h rest)) port
after_host rest host port h p is =
    subst (λ (z : List ℕ). IsPortPart z port)
    (sym (take_all (length rest - h) (drop h rest) (omega (arith, length-drop h rest)) ∙ ap (drop h) p.text ∙ drop_at host p.after h (sym is))) p.port_is

pub parts_there : (rest : List ℕ) (h port : ℕ) → 1 ≤ h → h ≤ 253 → h ≤ length rest → ((k : ℕ) → k < h → IsTrue (is_host_byte (get_or rest k 0))) → IsPortPart (drop h rest) port
    → IsHostAndPort rest (take h rest) port
parts_there rest h port least greatest within all part =
    let long : length (take h rest) ≡ h = length-take-le h rest within in
    record {
      least = omega (arith, long);
      greatest = omega (arith, long);
      bytes = λ k less. subst (λ (b : ℕ). IsTrue (is_host_byte b)) (sym (get_or-take h rest k 0 (omega (arith, long)))) (all k (omega (arith, long)));
      after = drop h rest;
      text = sym (take-append-drop h rest);
      port_is = part;
    }

-- two texts that differ are not the same
pub another : (text word : List ℕ) (differs : Bool) → differs ≡ not (bytes_eq text word) → differs ≡ true → text ≡ word → ⊥
another text word differs is holds same = let equal : bytes_eq text word ≡ true = (bytes_decides text word).1 same in absurd cc

-- what follows `http://`
pub no_parts : {T : Type 0} (text rest : List ℕ) (r : Option T) → rest ≡ drop 7 text → IfNone r ((host : List ℕ) (port : ℕ) → IsHostAndPort rest host port → ⊥)
    → IfNone r ((host : List ℕ) (port : ℕ) → IsAddress text host port → ⊥)
no_parts text rest None is none =
    λ host port a. none host port (subst (λ (z : List ℕ). IsHostAndPort z host port) (sym (is ∙ ap (drop 7) a.scheme)) a.parts)
no_parts text rest (Some x) is none = tt

-- the byte after the host, if there is one, is a colon
after_host_is : (text host after : List ℕ) (port : ℕ) → text ≡ codes "http://" ++ (host ++ after) → IsPortPart after port → 7 + length host < length text
    → get_or text (7 + length host) 0 ≡ 58
after_host_is text host after port whole (inl none) less =
    absurd (omega (arith, ap length whole, length-append host after, ap length none.0))
after_host_is text host after port whole (inr part) less =
    ap (λ (z : List ℕ). get_or z (7 + length host) 0) whole ∙ get_or-append-add (codes "http://") (host ++ after) (length host) 0
    ∙ get_or-append_right host after (length host) (length host) 0 refl (omega arith) ∙ ap (λ (k : ℕ). get_or after k 0) (omega arith) ∙ ap (λ (z : List ℕ). get_or z 0 0) part.0

-- the host ends between whole characters
pub host_boundary : (text : List ℕ) (n port : ℕ) → KeepsAddress text n port → IsCharBoundary text (7 + n)
host_boundary text n port kept =
    let a = kept.address in
    let long : length (take n (drop 7 text)) ≡ n = length-take-le n (drop 7 text) (omega (arith, kept.within, length-drop 7 text)) in
    let whole : text ≡ codes "http://" ++ (take n (drop 7 text) ++ a.parts.after) = a.scheme ∙ ap (λ (z : List ℕ). codes "http://" ++ z) a.parts.text in (
      kept.within,
      λ less big.
          let is : get_or text (7 + n) 0 ≡ 58 = ap (λ (k : ℕ). get_or text (7 + k) 0) (sym long) ∙ after_host_is text (take n (drop 7 text)) a.parts.after port whole a.parts.port_is (omega (arith, long, less)) in
          absurd (omega (arith, is, big)),
    )

-- ---- an address has one host and one port

one_port : (after : List ℕ) (port other : ℕ) → IsPortPart after port → IsPortPart after other → port ≡ other
one_port after port other (inl p) (inl q) = p.1 ∙ sym q.1
one_port after port other (inl p) (inr q) = absurd (omega (arith, ap length p.0, ap length q.0))
one_port after port other (inr p) (inl q) = absurd (omega (arith, ap length p.0, ap length q.0))
one_port after port other (inr p) (inr q) =
    let digits = decimal port in
    let same : digits ≡ decimal other = ap (drop 1) (sym p.0 ∙ q.0) in
    sym (value_of_port digits port (min (digits_value 10 digits) 65536) refl p.2 refl) ∙ value_of_port digits other (min (digits_value 10 digits) 65536) same q.2 refl

pub one_address : (text host other : List ℕ) (port another : ℕ) → IsAddress text host port → IsAddress text other another → (host ≡ other) × (port ≡ another)
one_address text host other port another a b =
    let rest = a.rest in
    let same_rest : b.rest ≡ rest = ap (drop 7) (sym b.scheme ∙ a.scheme) in
    let q : IsHostAndPort rest other another = subst (λ (z : List ℕ). IsHostAndPort z other another) same_rest b.parts in
    let p = a.parts in
    let long : length host ≡ length other =
    host_ends rest other another (length host) q (omega (arith, ap length p.text, length-append host p.after)) (host_bytes rest host port p) (host_stops rest host port p) in
    let same : host ≡ other =
    sym (take_at host p.after (length host) refl) ∙ ap (take (length host)) (sym p.text ∙ q.text) ∙ take_at other q.after (length host) (sym long) in
    let after : q.after ≡ p.after =
    sym (drop_at other q.after (length host) (sym long)) ∙ ap (drop (length host)) (sym q.text ∙ p.text) ∙ drop_at host p.after (length host) refl in
    (same, one_port p.after port another p.port_is (subst (λ (z : List ℕ). IsPortPart z another) after q.port_is))
