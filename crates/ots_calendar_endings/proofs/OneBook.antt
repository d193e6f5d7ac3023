-- What the bytes of a journal's file are found to be as a book, they are found to be in one way.
use Rattle.std.proofs.Common.{◌≡◌, ◌<◌, inl, inr, ℕ, zero, suc, List, [], ◌∷◌, length, take, sym, ap, subst, ◌∙◌, arith}
use Rattle.std.proofs.lemmas.List.{take_all}
use Rattle.std.proofs.lemmas.Option.{slice_get-get_or}
use Rattle.std.specs.Prelude.{Some, slice_get, get_or}
use Rattle.std.specs.List.{AllByRecursion}
use Rattle.ots_journal.specs.declared.entry.Entry.{Entry}
use Rattle.ots_store.specs.Order.{commits_of, records_of}
use Rattle.ots_store.specs.Records.{Record, CommitRecord}
use Rattle.ots_opening.specs.declared.errors.OpenError.{OpenError}
use Rattle.ots_opening.specs.declared.errors.OpenError.TheVariants.{BadRecord}
use Rattle.ots_opening.proofs.Unique.{one_records, one_store_refusal, store_or_not}
use Rattle.ots_calendar.specs.Values.{FirstUntrue, IsTrue}
use Rattle.ots_calendar_endings.specs.Found.{HasBadValue, HasBook, RefusesBook}

-- One list of entries.
pub one_book : (bytes : List ℕ) (es fs : List Entry) → HasBook (Some bytes) es → HasBook (Some bytes) fs → es ≡ fs
one_book bytes es fs f g = one_records bytes es fs f.store g.store

-- The first record whose values are not right is the only one, and there is none where all values are right.
true_before : (P : Record → Type 0) (records : List Record) (i j : ℕ) (r : Record) → i < j → AllByRecursion P (take j records) → slice_get records i ≡ Some r → P r
true_before P [] i j r less all is = absurd (cc)
true_before P (x ∷ records) i zero r less all is = absurd (omega arith)
true_before P (x ∷ records) zero (suc j) r less all is = let same : x ≡ r = cc in subst P same all.0
true_before P (x ∷ records) (suc i) (suc j) r less all is = true_before P records i j r (omega arith) all.1 is

untrue_before : (records : List Record) (i j : ℕ) → i < j → AllByRecursion (IsTrue (commits_of records)) (take j records) → FirstUntrue records i → ⊥
untrue_before records i j less all bad =
    let r : Record = get_or records i (CommitRecord []) in
    let at : slice_get records i ≡ Some r = slice_get-get_or records i (CommitRecord []) bad.there in
    bad.untrue r at (true_before (IsTrue (commits_of records)) records i j r less all at)

one_untrue : (records : List Record) (i j : ℕ) → FirstUntrue records i → FirstUntrue records j → i ≡ j
one_untrue records i j f g =
    let before_it : i < j → ⊥ = λ less. untrue_before records i j less g.before f in
    let after_it : j < i → ⊥ = λ less. untrue_before records j i less f.before g in
    omega (arith, before_it, after_it)

value_or_not : (bytes : List ℕ) (es : List Entry) (e : OpenError) → HasBook (Some bytes) es → HasBadValue (Some bytes) e → ⊥
value_or_not bytes es e has f =
    let same : f.entries ≡ es = one_records bytes f.entries es f.has has.store in
    let bad : FirstUntrue (records_of es) f.index = subst (λ (l : List Entry). FirstUntrue (records_of l) f.index) same f.untrue in
    untrue_before (records_of es) f.index (length (records_of es)) bad.there
    (subst (AllByRecursion (IsTrue (commits_of (records_of es)))) (sym (take_all (length (records_of es)) (records_of es) (omega arith))) has.are_true) bad

pub book_or_not : (bytes : List ℕ) (es : List Entry) (e : OpenError) → HasBook (Some bytes) es → RefusesBook (Some bytes) e → ⊥
book_or_not bytes es e has (inl f) = store_or_not bytes es e has.store f
book_or_not bytes es e has (inr f) = value_or_not bytes es e has f

-- One refusal of a book.
one_bad_value : (bytes : List ℕ) (d e : OpenError) → HasBadValue (Some bytes) d → HasBadValue (Some bytes) e → d ≡ e
one_bad_value bytes d e f g =
    let same : g.entries ≡ f.entries = one_records bytes g.entries f.entries g.has f.has in
    let index : f.index ≡ g.index =
    one_untrue (records_of f.entries) f.index g.index f.untrue (subst (λ (l : List Entry). FirstUntrue (records_of l) g.index) same g.untrue) in
    f.error ∙ ap (λ (n : ℕ). let e : OpenError = BadRecord n in e) index ∙ sym g.error

pub one_book_refusal : (bytes : List ℕ) (d e : OpenError) → RefusesBook (Some bytes) d → RefusesBook (Some bytes) e → d ≡ e
one_book_refusal bytes d e (inl f) (inl g) = one_store_refusal bytes d e f g
one_book_refusal bytes d e (inl f) (inr g) = absurd (store_or_not bytes g.entries d g.has f)
one_book_refusal bytes d e (inr f) (inl g) = absurd (store_or_not bytes f.entries e f.has g)
one_book_refusal bytes d e (inr f) (inr g) = one_bad_value bytes d e f g
