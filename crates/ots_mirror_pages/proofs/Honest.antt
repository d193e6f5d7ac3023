-- What an honest calendar's pages lead to.
use Rattle.std.proofs.Common.{◌≡◌, ℕ, ◌+◌, ◌-◌, ◌*◌, ◌<◌, ◌≤◌, ◌^◌, zero, suc, Bool, true, false, List, [], ◌∷◌, ◌++◌, length, drop, refl, sym, ◌∙◌, ap, subst, arith, append_assoc, length-append}
use Rattle.std.proofs.lemmas.Bool.{le-leb}
use Rattle.std.proofs.lemmas.List.{drop_at, drop-append-le}
use Rattle.std.specs.List.{AllByRecursion, flat_map}
use Rattle.std.specs.Prelude.{map, nat_le, if◌then◌else◌}
use Rattle.ots_base.specs.declared.limits.TheConstants.{MAX_REPLY_BODY}
use Rattle.ots_journal.specs.declared.entry.Entry.{Entry}
use Rattle.ots_merkle.specs.declared.branch.Side.{Side}
use Rattle.ots_store.specs.Order.{records_of}
use Rattle.ots_store.specs.Page.{entry_size, fitting, page}
use Rattle.ots_store.specs.Records.{HasForm, HasHash, Record, CommitRecord, TipRecord, AnchorRecord, anchor_payload, anchor_rest, branch_bytes, entry_of, sized, step_bytes}
use Rattle.ots_store.specs.declared.page.TheConstants.{MAX_PAGE_ENTRIES}
use Rattle.ots_store.proofs.Spellings.{record_read}
use Rattle.ots_mirror_pages.specs.Page.{IsPage}
use Rattle.ots_mirror_pages.specs.Round.{IsHonest, IsPrefix, Takes}
use Rattle.ots_mirror_pages.proofs.Reading.{entries_at, is_page, same_page}

forms_after : (xs ys : List Record) → AllByRecursion HasForm (xs ++ ys) → AllByRecursion HasForm ys
forms_after [] ys forms = forms
forms_after (x ∷ xs) ys forms = forms_after xs ys forms.1

forms_before : (xs ys : List Record) → AllByRecursion HasForm (xs ++ ys) → AllByRecursion HasForm xs
forms_before [] ys forms = tt
forms_before (x ∷ xs) ys forms = (forms.0, forms_before xs ys forms.1)

same_records : (run : List Record) → AllByRecursion HasForm run → records_of (map entry_of run) ≡ run
same_records [] forms = refl
same_records (r ∷ run) forms =
    let one = record_read r forms.0 in
    let more = same_records run forms.1 in
    λ i. one i ∷ more i

pub followed : (all records : List Record) (body : List ℕ) (entries : List Entry) → AllByRecursion HasForm all → IsPrefix records all → IsHonest all body → Takes records body entries
    → IsPrefix (records ++ records_of entries) all
followed all records body entries forms (tail, whole) honest takes =
    let (run, (rest, after), are) = honest (length records) entries takes.page in
    let tail_is : tail ≡ run ++ rest = sym (drop_at records tail (length records) refl) ∙ ap (drop (length records)) (sym whole) ∙ after in
    let run_forms = forms_before run rest (subst (AllByRecursion HasForm) tail_is (forms_after records tail (subst (AllByRecursion HasForm) whole forms))) in (
      rest,
      whole ∙ ap (λ (z : List Record). records ++ z) tail_is ∙ sym (append_assoc records run rest)
          ∙ ap (λ (z : List Record). records ++ z ++ rest) (sym (ap records_of are ∙ same_records run run_forms)),
    )

-- ---- what a page has

fit_run : (most room : ℕ) (records : List Record) → (run : List Record) × IsPrefix run records × (fitting most room (map entry_of records) ≡ map entry_of run)
fit_run zero room records = ([], (records, refl), refl)
fit_run (suc most) room [] = ([], ([], refl), refl)
fit_run (suc most) room (r ∷ records) = by_size (nat_le (entry_size (entry_of r)) room) (fit_run most (room - entry_size (entry_of r)) records) where
  by_size : (b : Bool) → (run : List Record) × IsPrefix run records × (fitting most (room - entry_size (entry_of r)) (map entry_of records) ≡ map entry_of run)
      → (run : List Record) × IsPrefix run (r ∷ records)
      × ((if b then entry_of r ∷ fitting most (room - entry_size (entry_of r)) (map entry_of records) else []) ≡ map entry_of run)
  by_size true (run, (rest, whole), are) = (r ∷ run, (rest, ap (λ (z : List Record). r ∷ z) whole), ap (λ (z : List Entry). entry_of r ∷ z) are)
  by_size false more = ([], (r ∷ records, refl), refl)

pub honest : (all earlier : List Record) (n : ℕ) → IsPrefix earlier all → n < 2 ^ 64 → n ≤ length earlier → IsHonest all (page earlier n)
honest all earlier n (later, whole) small within = λ first entries it.
    let same = same_page (page earlier n) first n entries (entries_at earlier n) it (is_page earlier n small) in
    let (run, (rest, begins), are) = fit_run MAX_PAGE_ENTRIES (MAX_REPLY_BODY - 8) (drop n earlier) in (
      run,
      (rest ++ later, ap (λ (k : ℕ). drop k all) same.0 ∙ ap (drop n) whole ∙ drop-append-le n earlier later within ∙ ap (λ (z : List Record). z ++ later) begins ∙ append_assoc run rest later),
      same.1 ∙ are,
    )

-- ---- a page of a number below the count

steps_size : (branch : List (Side × List ℕ)) → AllByRecursion HasHash branch → length (flat_map step_bytes branch) ≡ 33 * length branch
steps_size [] hashes = refl
steps_size (step ∷ branch) hashes = omega (arith, hashes.0, length-append (step_bytes step) (flat_map step_bytes branch), steps_size branch hashes.1)

-- any record fits a page
record_short : (r : Record) → HasForm r → entry_size (entry_of r) ≤ MAX_REPLY_BODY - 8
record_short (CommitRecord commitment) form = omega (arith, form)
record_short (TipRecord tip) form = omega (arith, form.root)
record_short (AnchorRecord anchor) form =
    let steps = steps_size anchor.branch form.hashes in
    let rest : length (anchor_rest anchor) ≡ 2 + length anchor.prefix + (2 + length anchor.suffix) + (1 + length (flat_map step_bytes anchor.branch)) =
    length-append (sized anchor.prefix) (sized anchor.suffix ++ branch_bytes anchor.branch) ∙ omega (arith, length-append (sized anchor.suffix) (branch_bytes anchor.branch)) in
    let size : length (anchor_payload anchor) ≡ 24 + (length anchor.root + length (anchor_rest anchor)) = omega (arith, length-append anchor.root (anchor_rest anchor)) in
    omega (arith, size, rest, steps, form.root, form.steps, form.message)

first_fits : (most room : ℕ) (r : Record) (records : List Record) → entry_size (entry_of r) ≤ room → 1 ≤ length (fitting (suc most) room (map entry_of (r ∷ records)))
first_fits most room r records fits =
    let more = fitting most (room - entry_size (entry_of r)) (map entry_of records) in
    subst (λ (b : Bool). 1 ≤ length (if b then entry_of r ∷ more else [])) (sym (le-leb (entry_size (entry_of r)) room fits)) (omega arith)

some_fit : (records : List Record) (n : ℕ) → AllByRecursion HasForm records → n < length records → 1 ≤ length (entries_at records n)
some_fit [] n forms below = absurd (omega (arith, below))
some_fit (r ∷ records) zero forms below = first_fits 127 (MAX_REPLY_BODY - 8) r records (record_short r forms.0)
some_fit (r ∷ records) (suc n) forms below = some_fit records n forms.1 (omega (arith, below))

pub goes_on : (records : List Record) (n : ℕ) (entries : List Entry) → AllByRecursion HasForm records → n < 2 ^ 64 → n < length records → IsPage (page records n) n entries → 1 ≤ length entries
goes_on records n entries forms small below it =
    let same = (same_page (page records n) n n (entries_at records n) entries (is_page records n small) it).1 in
    subst (λ (l : List Entry). 1 ≤ length l) same (some_fit records n forms below)
