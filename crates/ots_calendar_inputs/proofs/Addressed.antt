-- The URI of an address, and a word that is no address.
use Rattle.std.proofs.Common.{◌≡◌, ◌≤◌, ◌<◌, ◌%◌, ◌^◌, ℕ, ◌+◌, suc, inl, inr, List, [], ◌∷◌, ◌++◌, length, refl, sym, ap, subst, ◌∙◌, arith, length-append, le-ltb}
use Rattle.std.specs.Prelude.{Result, Ok, Err, IsTrue, None, codes, decimal, not, slice_index}
use Rattle.std.specs.List.{AllByRecursion, position_from}
use Rattle.std.proofs.lemmas.Bool.Decides.{nat_tests}
use Rattle.std.proofs.lemmas.Fmt.{decimal_by_steps, length-decimal-le}
use Rattle.ots_address.specs.Address.{IsAddress, IsPortPart, is_host_byte}
use Rattle.ots_address.specs.OneAddress.{IfNotOneAddress}
use Rattle.ots_address.specs.declared.list.AddressError.{AddressError}
use Rattle.ots_address.specs.declared.list.AddressError.TheVariants as address
use Rattle.ots_base.specs.Memory.{UnlessOutOfMemory}
use Rattle.ots_attest.specs.NewUri.{new_uri}
use Rattle.ots_attest.specs.Uri.{is_uri_byte}
use Rattle.ots_attest.specs.declared.uri.UriError.{UriError}
use Rattle.ots_attest.specs.declared.uri.UriError.TheVariants.{OutOfMemory}
use Rattle.ots_calendar_inputs.specs.Address.{MayRefuseAddress, refusal}

-- ---- an address is a URI

abbrev AreGood : List ℕ → Type 0
AreGood xs = AllByRecursion (λ b. IsTrue (is_uri_byte b)) xs

good_append : (xs ys : List ℕ) → AreGood xs → AreGood ys → AreGood (xs ++ ys)
good_append [] ys first second = second
good_append (x ∷ xs) ys first second = (first.0, good_append xs ys first.1 second)

host_good : (b : ℕ) → IsTrue (is_host_byte b) → IsTrue (is_uri_byte b)
host_good b h = grind (arith, nat_tests)

each_good : (xs : List ℕ) → ((k : ℕ) → k < length xs → IsTrue (is_host_byte (slice_index xs k))) → AreGood xs
each_good [] each = tt
each_good (x ∷ xs) each = (host_good x (each 0 (omega arith)), each_good xs (λ k less. each (suc k) (omega arith)))

digit_good : (n : ℕ) → n < 10 → IsTrue (is_uri_byte (48 + n))
digit_good n small = grind (arith, nat_tests)

decimal_good : (n : ℕ) → n < 2 ^ 64 → AreGood (decimal n)
decimal_good n small = decimal_by_steps (λ n ds. AreGood ds) (λ n few. (digit_good n few, tt))
    (λ n ds some good. good_append ds ((48 + n % 10) ∷ []) good (digit_good (n % 10) (omega arith), tt)) n small

port_good : (after : List ℕ) (port : ℕ) → IsPortPart after port → AreGood after × (length after ≤ 6)
port_good after port (inl none) = subst (λ (z : List ℕ). AreGood z × (length z ≤ 6)) (sym none.0) (tt, omega arith)
port_good after port (inr some) =
    let most = some.2 in
    let few : length (decimal port) ≤ 5 = length-decimal-le 5 port (omega arith) (omega arith) (omega arith) in
    subst (λ (z : List ℕ). AreGood z × (length z ≤ 6)) (sym some.0) ((refl, decimal_good port (omega arith)), omega arith)

none_bad : (i : ℕ) (xs : List ℕ) → AreGood xs → position_from (λ b. not (is_uri_byte b)) i xs ≡ None
none_bad i [] h = refl
none_bad i (x ∷ xs) h = rw h.0 (none_bad (i + 1) xs h.1)

uri_made : (text : List ℕ) → AreGood text → length text ≤ 1000 → new_uri text ≡ Ok text
uri_made text good few = rw (le-ltb 1000 (length text) few, none_bad 0 text good) refl

pub address_made : (text host : List ℕ) (port : ℕ) → IsAddress text host port → new_uri text ≡ Ok text
address_made text host port a =
    let part = port_good a.parts.after port a.parts.port_is in
    let whole : text ≡ codes "http://" ++ (host ++ a.parts.after) = a.scheme ∙ ap (λ (z : List ℕ). codes "http://" ++ z) a.parts.text in
    let few = part.1 in
    let most = a.parts.greatest in
    uri_made text
    (subst AreGood (sym whole) (good_append (codes "http://") (host ++ a.parts.after) (refl, (refl, (refl, (refl, (refl, (refl, (refl, tt)))))))
    (good_append host a.parts.after (each_good host a.parts.bytes) part.0)))
    (omega (arith, ap length whole, length-append host a.parts.after))

-- so it is not refused
pub never_refused : (r : Result (List ℕ) UriError) (text host : List ℕ) (port : ℕ) (e : UriError) → UnlessOutOfMemory OutOfMemory r (new_uri text) → IsAddress text host port
    → r ≡ Err e → (e ≡ OutOfMemory → ⊥) → ⊥
never_refused r text host port e unless a is other =
    let made : r ≡ Ok text = unless (λ ran. other (let same : Err e ≡ Err OutOfMemory = sym is ∙ ran in cc)) ∙ address_made text host port a in
    let clash : Err e ≡ Ok text = sym is ∙ made in
    absurd cc

-- ---- a word that is none

pub none_refused : (word : List ℕ) (e : AddressError) → IfNotOneAddress word e → MayRefuseAddress word (refusal e)
none_refused word (address.BadAddress place https) none = record { place = place; https = https; none = none; status = refl }
none_refused word address.OutOfMemory none = tt
