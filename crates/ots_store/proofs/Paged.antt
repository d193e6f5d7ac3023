-- A page takes the entries of records one after another, as long as they fit.
use Rattle.std.proofs.Common.{◌≡◌, ◌≤◌, ◌<◌, ℕ, zero, suc, ◌+◌, ◌-◌, Bool, true, false, List, [], ◌∷◌, ◌++◌, length, drop, refl, sym, ap, ◌∙◌, arith, append_assoc, append-nil, length-append}
use Rattle.std.specs.Prelude.{slice_get, Option, Some, None, map, nat_le, if◌then◌else◌}
use Rattle.std.specs.Int.{w64, to_be_bytes}
use Rattle.std.specs.List.{AllByRecursion}
use Rattle.std.proofs.lemmas.List.{drop_more, drop_all}
use Rattle.std.proofs.lemmas.Option.{slice_get_within, get_or_from_slice_get}
use Rattle.std.proofs.lemmas.Bool.{le-leb, lt-leb, leb-true, le-ltb, lt-ltb}
use Rattle.ots_base.specs.declared.limits.TheConstants.{MAX_REPLY_BODY}
use Rattle.ots_journal.specs.declared.entry.Entry.{Entry}
use Rattle.ots_journal.specs.Image.{entry_bytes, entries_bytes}
use Rattle.ots_store.specs.Order.{records_of}
use Rattle.ots_store.specs.Page.{entry_size, fitting, page, page_of}
use Rattle.ots_store.specs.Records.{Record, entry_of, record_of, IsRecord}
use Rattle.ots_store.specs.declared.page.TheConstants.{MAX_PAGE_ENTRIES}

-- ---- entries are the spellings of the records that they spell

spelled_again : (entries : List Entry) → AllByRecursion IsRecord entries → entries ≡ map entry_of (records_of entries)
spelled_again [] each = refl
spelled_again (e ∷ entries) each = ap (λ (z : Entry). z ∷ entries) each.0.spelled ∙ ap (λ (z : List Entry). entry_of (record_of e) ∷ z) (spelled_again entries each.1)

pub dropped : (entries : List Entry) (n : ℕ) → AllByRecursion IsRecord entries → map entry_of (drop n (records_of entries)) ≡ drop n entries
dropped entries zero each = sym (spelled_again entries each)
dropped [] (suc n) each = refl
dropped (e ∷ entries) (suc n) each = dropped entries n each.1

-- ---- one entry more, or none

-- what these bytes become once as many more of the entries from the i-th on are added as fit
abbrev pub filled : List ℕ → List Entry → ℕ → ℕ → List ℕ
filled bytes entries most i = bytes ++ entries_bytes (fitting most (MAX_REPLY_BODY - length bytes) (drop i entries))

at : (entries : List Entry) (i : ℕ) (e : Entry) → slice_get entries i ≡ Some e → drop i entries ≡ e ∷ drop (i + 1) entries
at entries i e is = drop_more entries i e (slice_get_within entries i e is) ∙ ap (λ (z : Entry). z ∷ drop (i + 1) entries) (get_or_from_slice_get entries i e e is)

pub filled_on : (bytes : List ℕ) (entries : List Entry) (most i : ℕ) (e : Entry) → slice_get entries i ≡ Some e → length bytes + entry_size e ≤ MAX_REPLY_BODY
    → filled (bytes ++ entry_bytes e) entries most (i + 1) ≡ filled bytes entries (suc most) i
filled_on bytes entries most i e is fits =
    let rest = drop (i + 1) entries in
    let room = MAX_REPLY_BODY - length bytes in
    append_assoc bytes (entry_bytes e) (entries_bytes (fitting most (MAX_REPLY_BODY - length (bytes ++ entry_bytes e)) rest))
    ∙ ap (λ (r : ℕ). bytes ++ (entry_bytes e ++ entries_bytes (fitting most r rest))) (omega (arith, length-append bytes (entry_bytes e)))
    ∙ ap (λ (b : Bool). bytes ++ entries_bytes (if b then e ∷ fitting most (room - entry_size e) rest else [])) (sym (le-leb (entry_size e) room (omega arith)))
    ∙ ap (λ (l : List Entry). bytes ++ entries_bytes (fitting (suc most) room l)) (sym (at entries i e is))

pub filled_up : (bytes : List ℕ) (entries : List Entry) (most i : ℕ) (e : Entry) → slice_get entries i ≡ Some e → MAX_REPLY_BODY < length bytes + entry_size e
    → bytes ≡ filled bytes entries (suc most) i
filled_up bytes entries most i e is past =
    let rest = drop (i + 1) entries in
    let room = MAX_REPLY_BODY - length bytes in
    sym (ap (λ (l : List Entry). bytes ++ entries_bytes (fitting (suc most) room l)) (at entries i e is)
    ∙ ap (λ (b : Bool). bytes ++ entries_bytes (if b then e ∷ fitting most (room - entry_size e) rest else [])) (lt-leb (entry_size e) room (omega arith))
    ∙ append-nil bytes)

-- no more than so many, and none after the last
pub filled_all : (bytes : List ℕ) (entries : List Entry) (most i : ℕ) → (0 < most → length entries ≤ i) → bytes ≡ filled bytes entries most i
filled_all bytes entries zero i past = sym (append-nil bytes)
filled_all bytes entries (suc most) i past =
    sym (ap (λ (l : List Entry). bytes ++ entries_bytes (fitting (suc most) (MAX_REPLY_BODY - length bytes) l)) (drop_all i entries (past (omega arith)))
    ∙ append-nil bytes)

-- ---- the page

pub length_of_entry : (e : Entry) → length (entry_bytes e) ≡ entry_size e
length_of_entry e = simp length-append (omega arith)

room_for : (most room : ℕ) (entries : List Entry) → length (entries_bytes (fitting most room entries)) ≤ room
room_for zero room entries = omega arith
room_for (suc most) room [] = omega arith
room_for (suc most) room (e ∷ entries) = by_size (nat_le (entry_size e) room) refl (room_for most (room - entry_size e) entries) where
  by_size : (b : Bool) → nat_le (entry_size e) room ≡ b → length (entries_bytes (fitting most (room - entry_size e) entries)) ≤ room - entry_size e
      → length (entries_bytes (if b then e ∷ fitting most (room - entry_size e) entries else [])) ≤ room
  by_size true fits more =
      let rest = fitting most (room - entry_size e) entries in
      omega (arith, leb-true (entry_size e) room fits, length-append (entry_bytes e) (entries_bytes rest), length_of_entry e, more)
  by_size false past more = omega arith

pub whole_page : (entries : List Entry) (records : List Record) (n : ℕ) → records ≡ records_of entries → AllByRecursion IsRecord entries
    → filled (to_be_bytes w64 n) entries MAX_PAGE_ENTRIES n ≡ page records n
whole_page entries records n is each = rw (is, dropped entries n each) refl

pub page_there : (records : List Record) (n : ℕ) → n ≤ length records → Some (page records n) ≡ page_of records n
page_there records n within = ap (λ (b : Bool). if b then None else Some (page records n)) (sym (le-ltb (length records) n within))

pub none_past : (records : List Record) (n : ℕ) → length records < n → None ≡ page_of records n
none_past records n past = ap (λ (b : Bool). if b then None else Some (page records n)) (sym (lt-ltb (length records) n past))

pub page_short : (head : List ℕ) (entries : List Entry) (most n : ℕ) → length head ≤ MAX_REPLY_BODY → length (filled head entries most n) ≤ MAX_REPLY_BODY
page_short head entries most n short =
    let rest = fitting most (MAX_REPLY_BODY - length head) (drop n entries) in
    omega (arith, length-append head (entries_bytes rest), room_for most (MAX_REPLY_BODY - length head) (drop n entries))
