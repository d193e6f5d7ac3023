-- What the bytes of a journal's file are found to be, they are found to be in one way.
use Rattle.std.proofs.Common.{◌≡◌, ◌<◌, ◌≤◌, ◌⊎◌, inl, inr, ℕ, List, [], length, sym, ap, subst, ◌∙◌, arith}
use Rattle.std.specs.Prelude.{Some}
use Rattle.ots_journal.specs.declared.entry.Entry.{Entry}
use Rattle.ots_journal.specs.declared.errors.JournalError.{JournalError}
use Rattle.ots_journal.specs.declared.errors.JournalError.TheVariants as journal
use Rattle.ots_journal.specs.declared.limits.TheConstants.{MAX_JOURNAL}
use Rattle.ots_journal.specs.Image.{Stands}
use Rattle.ots_journal.specs.Opening.{IsFullOrCause, IsOfBytes, Refuses}
use Rattle.ots_journal.proofs.Unique.{gate_once, not_refused, refused_once, stands_once}
use Rattle.ots_store.specs.Order.{FirstBad}
use Rattle.ots_store.proofs.Bad.{not_bad, one_bad}
use Rattle.ots_opening.specs.declared.errors.OpenError.{OpenError}
use Rattle.ots_opening.specs.declared.errors.OpenError.TheVariants.{BadRecord}
use Rattle.ots_opening.specs.Opening.{HasBadForm, HasGate, HasRecords, IsOfFile, RefusesFile, RefusesStore, error_of_journal}

-- One gate, and one list of entries.
pub one_gate : (bytes : List ℕ) (g h : ℕ) → HasGate (Some bytes) g → HasGate (Some bytes) h → g ≡ h
one_gate bytes g h f k = gate_once bytes g h f k

pub one_records : (bytes : List ℕ) (es fs : List Entry) → HasRecords (Some bytes) es → HasRecords (Some bytes) fs → es ≡ fs
one_records bytes es fs f g = stands_once bytes es fs f.stand g.stand

-- A refusal of the file is for what its bytes hold, or says that there are too many; and where there are, it says so.
held_or_long : (bytes : List ℕ) (why : JournalError) → IsOfFile why → Refuses MAX_JOURNAL bytes why → IsOfBytes why ⊎ (MAX_JOURNAL < length bytes)
held_or_long bytes journal.DiskFault of r = absurd of
held_or_long bytes (journal.Full need limit) of r = inr r.2
held_or_long bytes journal.OldVersion of r = inl tt
held_or_long bytes journal.NotAJournal of r = inl tt
held_or_long bytes (journal.Damaged place) of r = inl tt
held_or_long bytes journal.OutOfMemory of r = absurd of

full_is : (bytes : List ℕ) (why : JournalError) → IsOfFile why → (MAX_JOURNAL < length bytes → IsFullOrCause why) → Refuses MAX_JOURNAL bytes why → MAX_JOURNAL < length bytes
    → why ≡ journal.Full (length bytes) MAX_JOURNAL
full_is bytes journal.DiskFault of first r long = absurd of
full_is bytes (journal.Full need limit) of first r long = (λ i. journal.Full (r.0 i) (r.1 i))
full_is bytes journal.OldVersion of first r long = absurd (first long)
full_is bytes journal.NotAJournal of first r long = absurd (first long)
full_is bytes (journal.Damaged place) of first r long = absurd (first long)
full_is bytes journal.OutOfMemory of first r long = absurd of

one_file_refusal : (bytes : List ℕ) (d e : OpenError) → RefusesFile (Some bytes) d → RefusesFile (Some bytes) e → d ≡ e
one_file_refusal bytes d e f g =
    let is_full : MAX_JOURNAL < length bytes → f.why ≡ g.why = λ long.
    full_is bytes f.why f.is_of_file f.full_first f.refuses long ∙ sym (full_is bytes g.why g.is_of_file g.full_first g.refuses long) in
    let same : f.why ≡ g.why = elim (held_or_long bytes f.why f.is_of_file f.refuses) [
      | inr long ↦ is_full long
      | inl held ↦ elim (held_or_long bytes g.why g.is_of_file g.refuses) [
        | inr long ↦ is_full long
        | inl also ↦ refused_once MAX_JOURNAL bytes f.why g.why f.refuses g.refuses held also
      ]
    ] in
    f.error ∙ ap error_of_journal same ∙ sym g.error

-- A file that stands for entries, and is not too long, is not refused for what it is.
file_or_not : (bytes : List ℕ) (es : List Entry) (e : OpenError) → length bytes ≤ MAX_JOURNAL → Stands bytes es → RefusesFile (Some bytes) e → ⊥
file_or_not bytes es e fits stands f = elim (held_or_long bytes f.why f.is_of_file f.refuses) [
  | inr long ↦ absurd (omega (arith, fits, long))
  | inl held ↦ not_refused MAX_JOURNAL bytes es f.why stands f.refuses held
]

-- Entries that spell records in order have no bad one.
form_or_not : (bytes : List ℕ) (es : List Entry) (e : OpenError) → HasRecords (Some bytes) es → HasBadForm (Some bytes) e → ⊥
form_or_not bytes es e has f =
    let same : f.entries ≡ es = stands_once bytes f.entries es f.stand has.stand in
    not_bad [] es f.index has.records (subst (λ (l : List Entry). FirstBad [] l f.index) same f.bad)

pub store_or_not : (bytes : List ℕ) (es : List Entry) (e : OpenError) → HasRecords (Some bytes) es → RefusesStore (Some bytes) e → ⊥
store_or_not bytes es e has (inl f) = file_or_not bytes es e has.within has.stand f
store_or_not bytes es e has (inr f) = form_or_not bytes es e has f

-- One refusal of a store.
one_bad_form : (bytes : List ℕ) (d e : OpenError) → HasBadForm (Some bytes) d → HasBadForm (Some bytes) e → d ≡ e
one_bad_form bytes d e f g =
    let same : g.entries ≡ f.entries = stands_once bytes g.entries f.entries g.stand f.stand in
    let index : f.index ≡ g.index = one_bad [] f.entries f.index g.index f.bad (subst (λ (l : List Entry). FirstBad [] l g.index) same g.bad) in
    f.error ∙ ap (λ (n : ℕ). let e : OpenError = BadRecord n in e) index ∙ sym g.error

pub one_store_refusal : (bytes : List ℕ) (d e : OpenError) → RefusesStore (Some bytes) d → RefusesStore (Some bytes) e → d ≡ e
one_store_refusal bytes d e (inl f) (inl g) = one_file_refusal bytes d e f g
one_store_refusal bytes d e (inl f) (inr g) = absurd (file_or_not bytes g.entries d g.within g.stand f)
one_store_refusal bytes d e (inr f) (inl g) = absurd (file_or_not bytes f.entries e f.within f.stand g)
one_store_refusal bytes d e (inr f) (inr g) = one_bad_form bytes d e f g
