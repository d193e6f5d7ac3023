-- Entries are read from bytes in one way alone.
use Rattle.std.proofs.Common.{◌≡◌, ℕ, ◌-◌, ◌<◌, ◌≤◌, ◌^◌, zero, suc, Bool, true, false, List, [], ◌∷◌, ◌++◌, length, take, drop, get_or, refl, sym, ◌∙◌, ap, arith, append_assoc, length-append}
use Rattle.std.proofs.lemmas.List.{append-nil, drop_at, take_at}
use Rattle.std.proofs.lemmas.Bool.{leb-true}
use Rattle.std.proofs.lemmas.List.Concat.{flat_map-append}
use Rattle.std.proofs.lemmas.Nat.{from_be_bytes-to_be_bytes_4, from_be_bytes-to_be_bytes_8}
use Rattle.std.specs.List.{AllByRecursion}
use Rattle.std.specs.Prelude.{map, nat_le, if◌then◌else◌}
use Rattle.std.specs.Int.{w32, w64, from_be_bytes}
use Rattle.ots_journal.specs.declared.entry.Entry.{Entry}
use Rattle.ots_journal.specs.Image.{entry_bytes, entries_bytes}
use Rattle.ots_base.specs.declared.limits.TheConstants.{MAX_REPLY_BODY}
use Rattle.ots_store.specs.Page.{entry_size, fitting, page}
use Rattle.ots_store.specs.Records.{Record, entry_of}
use Rattle.ots_store.specs.declared.page.TheConstants.{MAX_PAGE_ENTRIES}
use Rattle.ots_mirror_pages.specs.Page.{AreEntries, BeginsWith, HasSize, IsPage}

-- ---- one entry

same_size : (e f : Entry) (r s : List ℕ) → HasSize e → HasSize f → entry_bytes e ++ r ≡ entry_bytes f ++ s → length e.payload ≡ length f.payload
same_size e f r s fits_e fits_f same =
    sym (from_be_bytes-to_be_bytes_4 (length e.payload) fits_e) ∙ ap (λ (l : List ℕ). from_be_bytes w32 (take 4 (drop 1 l))) same ∙ from_be_bytes-to_be_bytes_4 (length f.payload) fits_f

one_entry : (e f : Entry) (r s : List ℕ) → HasSize e → HasSize f → entry_bytes e ++ r ≡ entry_bytes f ++ s → (e ≡ f) × (r ≡ s)
one_entry e f r s fits_e fits_f same =
    let n = length e.payload in
    let sizes = same_size e f r s fits_e fits_f same in
    let rests : e.payload ++ r ≡ f.payload ++ s = ap (λ (l : List ℕ). drop 5 l) same in
    let kinds : e.kind ≡ f.kind = ap (λ (l : List ℕ). get_or l 0 0) same in
    let payloads : e.payload ≡ f.payload = sym (take_at e.payload r n refl) ∙ ap (take n) rests ∙ take_at f.payload s n (sym sizes) in
    (λ i. record { kind = kinds i; payload = payloads i }, sym (drop_at e.payload r n refl) ∙ ap (drop n) rests ∙ drop_at f.payload s n (sym sizes))

-- ---- entries so far

-- the bytes are these entries and what is left, and so is any list of entries that they are
pub record ReadTo (bytes left : List ℕ) (entries : List Entry) : Type 0 where
  pub few : length entries ≤ MAX_PAGE_ENTRIES
  pub sizes : AllByRecursion HasSize entries
  pub whole : bytes ≡ entries_bytes entries ++ left
  pub others : (all : List Entry) → AreEntries bytes all → (more : List Entry) × (all ≡ entries ++ more) × AllByRecursion HasSize more × (left ≡ entries_bytes more)

pub none_yet : (bytes : List ℕ) → ReadTo bytes bytes []
none_yet bytes = record { few = omega arith; sizes = tt; whole = refl; others = λ all are. (all, refl, are.sizes, are.whole) }

sizes_push : (entries : List Entry) (e : Entry) → AllByRecursion HasSize entries → HasSize e → AllByRecursion HasSize (entries ++ e ∷ [])
sizes_push [] e sizes size = (size, tt)
sizes_push (x ∷ entries) e sizes size = (sizes.0, sizes_push entries e sizes.1 size)

pub one_more : (bytes left rest : List ℕ) (entries longer : List Entry) (e : Entry) → longer ≡ entries ++ e ∷ [] → length entries < MAX_PAGE_ENTRIES → BeginsWith e rest left
    → ReadTo bytes left entries → ReadTo bytes rest longer
one_more bytes left rest entries longer e is few begins so_far = rw is (record {
  few = omega (arith, length-append entries (e ∷ []));
  sizes = sizes_push entries e so_far.sizes begins.size;
  whole =
      so_far.whole ∙ ap (λ (l : List ℕ). entries_bytes entries ++ l) begins.whole ∙ sym (append_assoc (entries_bytes entries) (entry_bytes e) rest)
      ∙ ap (λ (l : List ℕ). l ++ rest) (sym (flat_map-append entry_bytes entries (e ∷ []) ∙ ap (λ (l : List ℕ). entries_bytes entries ++ l) (append-nil (entry_bytes e))));
  others = λ all are. let o = so_far.others all are in next all o.0 o.1 o.2 o.3;
}) where
  next : (all more : List Entry) → all ≡ entries ++ more → AllByRecursion HasSize more → left ≡ entries_bytes more
      → (after : List Entry) × (all ≡ (entries ++ e ∷ []) ++ after) × AllByRecursion HasSize after × (rest ≡ entries_bytes after)
  next all [] same sizes bytes_are = absurd (omega (arith, ap length (sym begins.whole ∙ bytes_are)))
  next all (f ∷ more) same sizes bytes_are =
      let one = one_entry e f rest (entries_bytes more) begins.size sizes.0 (sym begins.whole ∙ bytes_are) in
      (more, same ∙ ap (λ (x : Entry). entries ++ x ∷ more) (sym one.0) ∙ sym (append_assoc entries (e ∷ []) more), sizes.1, one.1)

pub all_read : (bytes left : List ℕ) (entries : List Entry) → length left ≤ 0 → ReadTo bytes left entries → AreEntries bytes entries
all_read bytes [] entries none so_far = record { few = so_far.few; sizes = so_far.sizes; whole = so_far.whole ∙ append-nil (entries_bytes entries) }
all_read bytes (b ∷ left) entries none so_far = absurd (omega (arith, none))

-- more bytes after as many entries as may be
pub too_many : (bytes left : List ℕ) (entries : List Entry) → length entries ≡ MAX_PAGE_ENTRIES → 0 < length left → ReadTo bytes left entries → (all : List Entry) → AreEntries bytes all → ⊥
too_many bytes left entries full some so_far all are = let o = so_far.others all are in by_more o.0 o.1 o.3 where
  by_more : (more : List Entry) → all ≡ entries ++ more → left ≡ entries_bytes more → ⊥
  by_more [] same bytes_are = omega (arith, some, ap length bytes_are)
  by_more (f ∷ more) same bytes_are = omega (arith, full, are.few, ap length same, length-append entries (f ∷ more))

-- no entry where one has to begin
pub none_begins : (bytes left : List ℕ) (entries : List Entry) → 0 < length left → ((e : Entry) (rest : List ℕ) → BeginsWith e rest left → ⊥) → ReadTo bytes left entries → (all : List Entry) → AreEntries bytes all → ⊥
none_begins bytes left entries some none so_far all are = let o = so_far.others all are in by_more o.0 o.2 o.3 where
  by_more : (more : List Entry) → AllByRecursion HasSize more → left ≡ entries_bytes more → ⊥
  by_more [] sizes bytes_are = omega (arith, some, ap length bytes_are)
  by_more (f ∷ more) sizes bytes_are = none f (entries_bytes more) (record { size = sizes.0; whole = bytes_are })

-- ---- one page

same_entries : (some others : List Entry) → AllByRecursion HasSize some → AllByRecursion HasSize others → entries_bytes some ≡ entries_bytes others → some ≡ others
same_entries [] [] sizes sizes' same = refl
same_entries [] (y ∷ ys) sizes sizes' same = absurd (omega (arith, ap length same))
same_entries (x ∷ xs) [] sizes sizes' same = absurd (omega (arith, ap length same))
same_entries (x ∷ xs) (y ∷ ys) sizes sizes' same =
    let one = one_entry x y (entries_bytes xs) (entries_bytes ys) sizes.0 sizes'.0 same in
    let more = same_entries xs ys sizes.1 sizes'.1 one.1 in
    λ i. one.0 i ∷ more i

pub same_page : (bytes : List ℕ) (first second : ℕ) (some others : List Entry) → IsPage bytes first some → IsPage bytes second others → (first ≡ second) × (some ≡ others)
same_page bytes first second some others p q =
    let same = sym p.whole ∙ q.whole in (
      sym (from_be_bytes-to_be_bytes_8 first p.number) ∙ ap (λ (l : List ℕ). from_be_bytes w64 (take 8 l)) same ∙ from_be_bytes-to_be_bytes_8 second q.number,
      same_entries some others p.sizes q.sizes (ap (drop 8) same),
    )

-- ---- a page that a calendar hands out

fit_few : (most room : ℕ) (entries : List Entry) → length (fitting most room entries) ≤ most
fit_few zero room entries = omega arith
fit_few (suc most) room [] = omega arith
fit_few (suc most) room (e ∷ entries) = by_size (nat_le (entry_size e) room) (fit_few most (room - entry_size e) entries) where
  by_size : (b : Bool) → length (fitting most (room - entry_size e) entries) ≤ most → length (if b then e ∷ fitting most (room - entry_size e) entries else []) ≤ suc most
  by_size true few = omega (arith, few)
  by_size false few = omega arith

fit_sizes : (most room : ℕ) (entries : List Entry) → room < 2 ^ 32 → AllByRecursion HasSize (fitting most room entries)
fit_sizes zero room entries small = tt
fit_sizes (suc most) room [] small = tt
fit_sizes (suc most) room (e ∷ entries) small = by_size (nat_le (entry_size e) room) refl (fit_sizes most (room - entry_size e) entries (omega (arith, small))) where
  by_size : (b : Bool) → nat_le (entry_size e) room ≡ b → AllByRecursion HasSize (fitting most (room - entry_size e) entries)
      → AllByRecursion HasSize (if b then e ∷ fitting most (room - entry_size e) entries else [])
  by_size true fits more = (omega (arith, leb-true (entry_size e) room fits, small), more)
  by_size false past more = tt

-- the entries that a page has
abbrev pub entries_at : List Record → ℕ → List Entry
entries_at records n = fitting MAX_PAGE_ENTRIES (MAX_REPLY_BODY - 8) (map entry_of (drop n records))

pub is_page : (records : List Record) (n : ℕ) → n < 2 ^ 64 → IsPage (page records n) n (entries_at records n)
is_page records n small =
    let entries = map entry_of (drop n records) in
    let room = MAX_REPLY_BODY - 8 in
    record { number = small; few = fit_few MAX_PAGE_ENTRIES room entries; sizes = fit_sizes MAX_PAGE_ENTRIES room entries (omega arith); whole = refl }

pub page_read : (records : List Record) (n : ℕ) → n < 2 ^ 64 → (entries : List Entry) × IsPage (page records n) n entries
page_read records n small = (entries_at records n, is_page records n small)
