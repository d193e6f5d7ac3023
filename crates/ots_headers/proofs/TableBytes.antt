-- Headers one after another: their bytes, and the headers that bytes are made of.
use Rattle.std.proofs.Common.{le-ltb, ◌≡◌, ℕ, zero, suc, ◌+◌, ◌-◌, ◌*◌, ◌/◌, ◌%◌, ◌^◌, ◌<◌, ◌≤◌, List, [], ◌∷◌, ◌++◌, length, get_or, drop, Some, None, Bool, true, false, is_some, IsSome, nat_lt, if◌then◌else◌, ltb-false, ◌↔◌, refl, sym, ap, ◌∙◌, arith, length-append, length-drop, drop-drop, take-append-drop}
use Rattle.std.proofs.lemmas.List.{drop_all}
use Rattle.std.specs.List.{AllByRecursion, slice_get}
use Rattle.std.proofs.lemmas.Option.{slice_get_past}
use Rattle.ots_headers.specs.declared.header.Header.{Header}
use Rattle.ots_headers.specs.Header.{serialized, IsHeader, header_in}
use Rattle.ots_headers.specs.HeaderTable.{Table, IsTable, all_serialized, first_headers, headers_in, table_in, header_at}
use Rattle.ots_headers.specs.TableRead.{IsTableOf}
use Rattle.ots_headers.proofs.HeaderBytes.{rest_below, serialized_in, is_header_in, length_serialized, header_in_serialized, after_serialized}

length_first : (n : ℕ) (b : List ℕ) → length (first_headers n b) ≡ n
unfolding first_headers
length_first zero b = refl
length_first (suc n) b = ap suc (length_first n (drop 80 b))

at_first : (n : ℕ) (b : List ℕ) (i : ℕ) → i < n → slice_get (first_headers n b) i ≡ Some (header_in (drop (80 * i) b))
unfolding first_headers
at_first zero b i h = absurd (omega arith)
at_first (suc n) b zero h = refl
at_first (suc n) b (suc i) h =
    at_first n (drop 80 b) i (omega arith)
    ∙ ap (λ l. Some (header_in l)) (drop-drop (80 * i) 80 b ∙ ap (λ k. drop k b) {x = 80 + 80 * i} {y = 80 * suc i} (omega arith))

are_headers : (n : ℕ) (b : List ℕ) → 80 * n ≤ length b → ((i : ℕ) → get_or b i 0 < 256) → AllByRecursion IsHeader (first_headers n b)
unfolding first_headers
are_headers zero b fits below = tt
are_headers (suc n) b fits below =
    (is_header_in b (omega arith) below, are_headers n (drop 80 b) (omega (arith, length-drop 80 b)) (rest_below 80 b below))

all_first : (n : ℕ) (b : List ℕ) → length b ≡ 80 * n → ((i : ℕ) → get_or b i 0 < 256) → all_serialized (first_headers n b) ≡ b
unfolding first_headers
all_first zero b e below = sym (drop_all 0 b (omega arith))
all_first (suc n) b e below =
    (λ i. serialized_in b (omega arith) below i ++ all_first n (drop 80 b) (omega (arith, length-drop 80 b)) (rest_below 80 b below) i)
    ∙ take-append-drop 80 b

back : (hs : List Header) → AllByRecursion IsHeader hs → first_headers (length hs) (all_serialized hs) ≡ hs
unfolding first_headers
back [] ok = refl
back (h ∷ hs) ok =
    λ i. header_in_serialized h (all_serialized hs) ok.0 i
    ∷ (ap (first_headers (length hs)) (after_serialized h (all_serialized hs) ok.0) ∙ back hs ok.1) i

length_all : (hs : List Header) → AllByRecursion IsHeader hs → length (all_serialized hs) ≡ 80 * length hs
length_all [] ok = refl
length_all (h ∷ hs) ok =
    length-append (serialized h) (all_serialized hs) ∙ omega (arith, length_serialized h ok.0, length_all hs ok.1)

-- a table is 80 bytes a header
pub length_of_table : (first : ℕ) (b : List ℕ) (t : Table) → IsTableOf first b t → length b ≡ 80 * length t.headers
length_of_table first b t is = ap length (sym is.headers) ∙ length_all t.headers is.limits.headers

-- the headers that the bytes of headers are made of are those headers
pub headers_back : (hs : List Header) → AllByRecursion IsHeader hs → headers_in (all_serialized hs) ≡ hs
headers_back hs ok =
    ap (λ n. first_headers n (all_serialized hs)) {x = length (all_serialized hs) / 80} {y = length hs} (omega (arith, length_all hs ok))
    ∙ back hs ok

-- what a table holds
pub limits : (first : ℕ) (b : List ℕ) → first ≤ 2 ^ 63 - 1 → 1 ≤ length b → length b ≤ 83886080 → length b % 80 ≡ 0
    → ((i : ℕ) → get_or b i 0 < 256) → IsTable (table_in first b)
limits first b start least most whole below = record {
  first = start;
  headers = are_headers (length b / 80) b (omega arith) below;
  some = rw (length_first (length b / 80) b) (omega arith);
  at_most = rw (length_first (length b / 80) b) (omega arith);
}

pub table_of_bytes : (first : ℕ) (b : List ℕ) → first ≤ 2 ^ 63 - 1 → 1 ≤ length b → length b ≤ 83886080 → length b % 80 ≡ 0
    → ((i : ℕ) → get_or b i 0 < 256) → IsTableOf first b (table_in first b)
table_of_bytes first b start least most whole below = record {
  first = refl;
  headers = all_first (length b / 80) b (omega arith) below;
  limits = limits first b start least most whole below;
}

pub count_of : (b : List ℕ) → length (headers_in b) ≡ length b / 80
count_of b = length_first (length b / 80) b

pub one_table_lem : (first : ℕ) (b : List ℕ) (t u : Table) → IsTableOf first b t → IsTableOf first b u → t ≡ u
one_table_lem first b t u x y =
    let same : t.headers ≡ u.headers = sym (headers_back t.headers x.limits.headers) ∙ ap headers_in (x.headers ∙ sym y.headers) ∙ headers_back u.headers y.limits.headers in
    let start : t.first ≡ u.first = x.first ∙ sym y.first in
    λ i. record { first = start i; headers = same i }

-- the header of a height, by where its bytes stand
pub header_there : (first height : ℕ) (b : List ℕ) → first ≤ height → height - first < length b / 80
    → header_at (table_in first b) height ≡ Some (header_in (drop (80 * (height - first)) b))
header_there first height b from within =
    rw (le-ltb height first from) (at_first (length b / 80) b (height - first) within)

pub no_header : (first height : ℕ) (b : List ℕ) → first ≤ height → length b / 80 ≤ height - first
    → header_at (table_in first b) height ≡ None
no_header first height b from past =
    rw (le-ltb height first from) (slice_get_past (headers_in b) (height - first) (rw (count_of b) past))

there : (hs : List Header) (i : ℕ) → is_some (slice_get hs i) ≡ true → i < length hs
there [] i e = cc
there (h ∷ hs) zero e = omega arith
there (h ∷ hs) (suc i) e = omega (arith, there hs i e)

within : (hs : List Header) (i : ℕ) → i < length hs → is_some (slice_get hs i) ≡ true
within [] i l = absurd (omega arith)
within (h ∷ hs) zero l = refl
within (h ∷ hs) (suc i) l = within hs i (omega arith)

has_height : (t : Table) (height : ℕ) (early : Bool) → nat_lt height t.first ≡ early
    → is_some (if early then None else slice_get t.headers (height - t.first)) ≡ true → (t.first ≤ height) × (height < t.first + length t.headers)
has_height t height true e s = cc
has_height t height false e s =
    let from : t.first ≤ height = ltb-false height t.first e in
    let here = there t.headers (height - t.first) s in
    (from, omega arith)

pub heights_lem : (t : Table) (height : ℕ) → IsSome (header_at t height) ↔ (t.first ≤ height) × (height < t.first + length t.headers)
heights_lem t height = (
  λ s. has_height t height (nat_lt height t.first) refl s,
  λ h. rw (le-ltb height t.first h.0) (within t.headers (height - t.first) (omega arith)),
)
