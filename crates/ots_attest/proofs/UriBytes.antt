-- Bytes that are a URI's.
use Rattle.std.proofs.Common.{◌≡◌, ℕ, zero, suc, ◌+◌, ◌-◌, ◌<◌, ◌≤◌, Bool, true, false, cond, ltb, List, [], ◌∷◌, ◌++◌, length, take, drop, Option, Some, None, refl, sym, ap, ◌∙◌, arith, lit<, length-drop}
use Rattle.std.specs.Prelude.{IsTrue, not, ◌&&◌, Result, Err, is_err}
use Rattle.std.specs.List.{AllByRecursion, list_all, position_from}
use Rattle.std.specs.Str.{IsAscii, IsUtf8}
use Rattle.std.proofs.lemmas.Str.{IsUtf8-from_ascii}
use Rattle.std.proofs.lemmas.Bool.Decides.{nat_tests}
use Rattle.std.proofs.lemmas.Bool.{ltb-false, le-ltb, false_from_ne_true}
use Rattle.std.proofs.lemmas.List.{append-nil, drop_all, length-take-le, length-take}
use Rattle.ots_varint.specs.Varuint.{varbytes}
use Rattle.ots_varint.specs.Reading.{IsSpelledAt}
use Rattle.ots_varint.proofs.After.{after, same_slice}
use Rattle.ots_attest.specs.Uri.{is_uri_byte, IsUri}
use Rattle.ots_attest.specs.declared.uri.UriError.{UriError}
use Rattle.ots_attest.specs.declared.uri.UriError.TheVariants.{TooLong}
use Rattle.ots_attest.specs.NewUri.{first_bad, unless_bad, where_uri, uri_check}

-- ---- good and bad bytes

good_step : (good rest : Bool) (i : ℕ) (r : Option ℕ) → (r ≡ None → rest ≡ true) → cond (not good) (Some i) r ≡ None → (good && rest) ≡ true
good_step true rest i r h e = h e
good_step false rest i r h e = absurd cc

-- where no byte is bad, all are good
all_good : (i : ℕ) (xs : List ℕ) → position_from (λ b. not (is_uri_byte b)) i xs ≡ None → list_all is_uri_byte xs ≡ true
all_good i [] e = refl
all_good i (x ∷ xs) e = good_step (is_uri_byte x) (list_all is_uri_byte xs) i (position_from (λ b. not (is_uri_byte b)) (i + 1) xs) (all_good (i + 1) xs) e

bad_step : (good rest : Bool) (i place : ℕ) (r : Option ℕ) → (r ≡ Some place → rest ≡ false) → cond (not good) (Some i) r ≡ Some place → (good && rest) ≡ false
bad_step true rest i place r h e = h e
bad_step false rest i place r h e = refl

some_bad : (i : ℕ) (xs : List ℕ) (place : ℕ) → position_from (λ b. not (is_uri_byte b)) i xs ≡ Some place → list_all is_uri_byte xs ≡ false
some_bad i [] place e = absurd cc
some_bad i (x ∷ xs) place e =
    bad_step (is_uri_byte x) (list_all is_uri_byte xs) i place (position_from (λ b. not (is_uri_byte b)) (i + 1) xs) (some_bad (i + 1) xs place) e

-- ---- the test

refused_by : {A : Type 0} (long : Bool) (bad : Option ℕ) (e : UriError) (v : A) → is_err (cond long (Err e) (unless_bad bad v)) ≡ true → long ≡ false → (place : ℕ) × (bad ≡ Some place)
refused_by true bad e v h short = absurd cc
refused_by false None e v h short = absurd cc
refused_by false (Some place) e v h short = (place, refl)

passed_by : {A : Type 0} (long : Bool) (bad : Option ℕ) (e : UriError) (v : A) → is_err (cond long (Err e) (unless_bad bad v)) ≡ false → (long ≡ false) × (bad ≡ None)
passed_by true bad e v h = absurd cc
passed_by false None e v h = (refl, refl)
passed_by false (Some place) e v h = absurd cc

-- of at most 1000 bytes, one is bad
pub refused : {A : Type 0} (bytes : List ℕ) (v : A) → length bytes ≤ 1000 → is_err (where_uri bytes v) ≡ true → list_all is_uri_byte bytes ≡ false
refused bytes v few e =
    let bad = refused_by (ltb 1000 (length bytes)) (first_bad bytes) (TooLong (length bytes)) v e (le-ltb 1000 (length bytes) few) in
    some_bad 0 bytes bad.0 bad.1

each_passes : (f : ℕ → Bool) (xs : List ℕ) → list_all f xs ≡ true → AllByRecursion (λ b. IsTrue (f b)) xs
each_passes f [] h = tt
each_passes f (x ∷ xs) h = let b = both (f x) (list_all f xs) h in (b.0, each_passes f xs b.1)
  where
    both : (x y : Bool) → (x && y) ≡ true → IsTrue x × (y ≡ true)
    both true y h = (refl, h)
    both false y h = absurd cc

-- few bytes, all of them good, are a URI
pub is_uri : (bytes : List ℕ) → length bytes ≤ 1000 → list_all is_uri_byte bytes ≡ true → IsUri bytes
is_uri bytes few good = record { greatest = few; each = each_passes is_uri_byte bytes good }

pub passed : {A : Type 0} (bytes : List ℕ) (v : A) → is_err (where_uri bytes v) ≡ false → IsUri bytes × (list_all is_uri_byte bytes ≡ true)
passed bytes v e =
    let ok = passed_by (ltb 1000 (length bytes)) (first_bad bytes) (TooLong (length bytes)) v e in
    let good = all_good 0 bytes ok.1 in
    (is_uri bytes (ltb-false 1000 (length bytes) ok.0) good, good)

-- of bytes that are those of a text
pub tested : (text bytes : List ℕ) (r : Result (Unit {0}) UriError) → bytes ≡ text → r ≡ uri_check bytes → is_err r ≡ false → IsUri text × (list_all is_uri_byte text ≡ true)
tested text bytes r same is e = passed text tt (sym (ap is_err (is ∙ ap uri_check same)) ∙ e)

-- ---- a URI is text

small : (b : ℕ) → IsTrue (is_uri_byte b) → b < 128
small b h = grind (arith, nat_tests)

all_ascii : (xs : List ℕ) → AllByRecursion (λ b. IsTrue (is_uri_byte b)) xs → IsAscii xs
all_ascii [] h i = lit< tt
all_ascii (x ∷ xs) h zero = small x h.0
all_ascii (x ∷ xs) h (suc i) = all_ascii xs h.1 i

-- what is no text has a bad byte
pub no_text : (bytes : List ℕ) → (IsUtf8 bytes → ⊥) → list_all is_uri_byte bytes ≡ false
no_text bytes h = false_from_ne_true _ (λ good. h (IsUtf8-from_ascii bytes (all_ascii bytes (each_passes is_uri_byte bytes good))))

-- ---- after its length

-- the URI of n bytes, where nothing follows
pub whole : (n used : ℕ) (p : List ℕ) → IsSpelledAt p n used → used + n ≤ length p → length p ≤ used + n → varbytes (take n (drop used p)) ≡ p
whole n used p at room end =
    let b = after n used p at room in
    sym (b.spelled ∙ ap (λ (z : List ℕ). varbytes (take n (drop used p)) ++ z) (drop_all (used + n) p end) ∙ append-nil (varbytes (take n (drop used p))))

-- and it is one where it is short and its bytes are good
pub uri_of_text : (n used : ℕ) (p : List ℕ) → used + n ≤ length p → n ≤ 1000 → list_all is_uri_byte (take n (drop used p)) ≡ true → IsUri (take n (drop used p))
uri_of_text n used p room few good =
    is_uri (take n (drop used p)) (rw (length-take-le n (drop used p) (omega (arith, length-drop used p))) few) good

-- the bytes of n after the length, as a slice names them, are at most 1000
pub text_few : (n used : ℕ) (p text : List ℕ) → text ≡ take (used + n - used) (drop used p) → n ≤ 1000 → length text ≤ 1000
text_few n used p text is few = omega (arith, ap length (is ∙ same_slice n used p), length-take n (drop used p))

pub text_bytes : (n used : ℕ) (p text : List ℕ) {b : Bool} → text ≡ take (used + n - used) (drop used p) → list_all is_uri_byte text ≡ b → list_all is_uri_byte (take n (drop used p)) ≡ b
text_bytes n used p text is e = sym (ap (list_all is_uri_byte) (is ∙ same_slice n used p)) ∙ e
