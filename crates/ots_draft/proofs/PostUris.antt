-- URIs that wait to be sent.
use Rattle.std.proofs.Common.{◌≡◌, ◌∙◌, ◌%◌, ◌^◌, ◌<◌, ◌≤◌, ℕ, ◌+◌, suc, List, [], ◌∷◌, ◌++◌, length, inl, inr, sym, subst, refl, ap, arith, length-append, le-ltb, lit<}
use Rattle.std.specs.Prelude.{Result, Ok, Err, IsTrue, None, codes, decimal, not, slice_index}
use Rattle.std.specs.List.{AllByRecursion, position_from}
use Rattle.std.proofs.lemmas.Bool.Decides.{nat_tests}
use Rattle.std.proofs.lemmas.Fmt.{decimal_by_steps}
use Rattle.std.proofs.lemmas.List.{append_cancel_left}
use Rattle.ots_address.specs.Address.{IsPortPart, is_host_byte}
use Rattle.ots_attest.specs.NewUri.{new_uri}
use Rattle.ots_attest.specs.Uri.{IsUri, is_uri_byte}
use Rattle.ots_attest.specs.declared.uri.UriError.{UriError}
use Rattle.ots_attest.specs.declared.uri.UriError.TheVariants.{OutOfMemory}
use Rattle.ots_base.specs.Memory.{UnlessOutOfMemory}
use Rattle.ots_calendar_url.proofs.Bytes.{url_short}
use Rattle.ots_calendar_url.specs.CalendarUrl.{IsUrl, scheme_text}
use Rattle.ots_calendar_url.specs.declared.url.Scheme.{Scheme}
use Rattle.ots_calendar_url.specs.declared.url.Scheme.TheVariants.{Http, Https}
use Rattle.ots_draft.specs.Draft.{IsPost, post_uri}

abbrev AreGood : List ℕ → Type 0
AreGood xs = AllByRecursion (λ b. IsTrue (is_uri_byte b)) xs

good_append : (xs ys : List ℕ) → AreGood xs → AreGood ys → AreGood (xs ++ ys)
good_append [] ys first second = second
good_append (x ∷ xs) ys first second = (first.0, good_append xs ys first.1 second)

host_good : (b : ℕ) → IsTrue (is_host_byte b) → IsTrue (is_uri_byte b)
host_good b h = grind (arith, nat_tests)

each_good : (xs : List ℕ) → ((k : ℕ) → k < length xs → IsTrue (is_host_byte (slice_index xs k))) → AreGood xs
each_good [] each = tt
each_good (x ∷ xs) each = (host_good x (each 0 (omega arith)), each_good xs (λ k less. each (suc k) (omega arith)))

digit_good : (n : ℕ) → n < 10 → IsTrue (is_uri_byte (48 + n))
digit_good n small = grind (arith, nat_tests)

decimal_good : (n : ℕ) → n < 2 ^ 64 → AreGood (decimal n)
decimal_good n small = decimal_by_steps (λ n ds. AreGood ds) (λ n few. (digit_good n few, tt))
    (λ n ds some good. good_append ds ((48 + n % 10) ∷ []) good (digit_good (n % 10) (omega arith), tt)) n small

port_good : (after : List ℕ) (port : ℕ) → IsPortPart after port → AreGood after
port_good after port (inl none) = subst AreGood (sym none.0) tt
port_good after port (inr some) = let most = some.2 in subst AreGood (sym some.0) (refl, decimal_good port (omega arith))

scheme_good : (s : Scheme) → AreGood (scheme_text s)
scheme_good Http = (refl, (refl, (refl, (refl, (refl, (refl, (refl, tt)))))))
scheme_good Https = (refl, (refl, (refl, (refl, (refl, (refl, (refl, (refl, tt))))))))

url_good : (url : List ℕ) (s : Scheme) → IsUrl url s → AreGood url
url_good url s u =
    let p = u.authority.parts in
    subst AreGood (sym u.begins)
    (good_append (scheme_text s) u.rest (scheme_good s)
    (subst AreGood (sym p.text) (good_append u.authority.host p.after (each_good u.authority.host p.bytes) (port_good p.after u.authority.port p.port_is))))

pub post_uri_is : (address : List ℕ) (s : Scheme) → IsUrl address s → IsUri (post_uri address)
post_uri_is address s u = record {
  greatest = omega (arith, url_short address s u, length-append (codes "post:") address);
  each = good_append (codes "post:") address (refl, (refl, (refl, (refl, (refl, tt))))) (url_good address s u);
}

pub one_address : (uri first second : List ℕ) → IsPost uri first → IsPost uri second → first ≡ second
one_address uri first second p q = append_cancel_left (codes "post:") first second (sym p.is ∙ q.is)

-- ---- so it is not refused

none_bad : (i : ℕ) (xs : List ℕ) → AreGood xs → position_from (λ b. not (is_uri_byte b)) i xs ≡ None
none_bad i [] h = refl
none_bad i (x ∷ xs) h = rw h.0 (none_bad (i + 1) xs h.1)

uri_made : (text : List ℕ) → IsUri text → new_uri text ≡ Ok text
uri_made text is = rw (le-ltb 1000 (length text) is.greatest, none_bad 0 text is.each) refl

pub never_refused : (r : Result (List ℕ) UriError) (text : List ℕ) (e : UriError) → UnlessOutOfMemory OutOfMemory r (new_uri text) → IsUri text
    → r ≡ Err e → (e ≡ OutOfMemory → ⊥) → ⊥
never_refused r text e unless fits is other =
    let made : r ≡ Ok text = unless (λ ran. other (let same : Err e ≡ Err OutOfMemory = sym is ∙ ran in cc)) ∙ uri_made text fits in
    let clash : Err e ≡ Ok text = sym is ∙ made in
    absurd cc
