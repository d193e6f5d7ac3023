-- What opening a store comes to.
use Rattle.std.proofs.Common.{◌≡◌, ◌<◌, ◌≤◌, true, inl, ℕ, List, length, Option, None, Some, arith, refl, sym, subst}
use Rattle.ots_base.specs.Cause.{HasCauseWhere, Rose}
use Rattle.ots_base.specs.Told.{IfTold}
use Rattle.ots_disk.specs.Disk.{LeavesOnly}
use Rattle.ots_journal.specs.Image.{Stands}
use Rattle.ots_journal.specs.Journal.{JournalTold}
use Rattle.ots_journal.specs.declared.errors.JournalError.{JournalError}
use Rattle.ots_journal.specs.declared.errors.JournalError.TheVariants as journal
use Rattle.ots_journal.specs.declared.limits.TheConstants.{MAX_JOURNAL}
use Rattle.ots_journal.specs.Opening.{IsFullOrCause, OpenedFrom, Refuses}
use Rattle.ots_store.specs.Store.{InRecords}
use Rattle.ots_opening.specs.declared.errors.OpenError.{OpenError}
use Rattle.ots_opening.specs.Opening.{AreEntries, AreWithin, Closes, HasGate, MayClose, is_refused, disk_failed, no_memory, Opens, RefusesStore, error_of_journal}

-- what is not longer
not_long : (told : Option (List ℕ)) → IfTold told (λ bytes. MAX_JOURNAL < length bytes → ⊥) → AreWithin told
not_long None long = tt
not_long (Some bytes) long = omega (arith, long)

module _ (told : Option (List ℕ)) (disk : Type 0) where
  journal_closes : (e : JournalError) → IfTold told (λ bytes. MAX_JOURNAL < length bytes → IsFullOrCause e) → IfTold told (λ bytes. Refuses MAX_JOURNAL bytes e) → (e ≡ journal.DiskFault → disk) → MayClose (RefusesStore told) disk (error_of_journal e)
  journal_closes journal.DiskFault first r rose = disk_failed (rose refl) refl
  journal_closes (journal.Full need limit) first r rose = is_refused (inl (record { why = journal.Full need limit; is_of_file = tt; full_first = first; refuses = r; error = refl }))
  journal_closes journal.OldVersion first r rose = is_refused (inl (record { why = journal.OldVersion; is_of_file = tt; full_first = first; refuses = r; error = refl }))
  journal_closes journal.NotAJournal first r rose = is_refused (inl (record { why = journal.NotAJournal; is_of_file = tt; full_first = first; refuses = r; error = refl }))
  journal_closes (journal.Damaged place) first r rose = is_refused (inl (record { why = journal.Damaged place; is_of_file = tt; full_first = first; refuses = r; error = refl }))
  journal_closes journal.OutOfMemory first r rose = no_memory refl

module _ {D : Type 0} (bytes : D → Option (List ℕ)) (faults clock : D → ℕ) (images : D → List ℕ → Type 0) (images_since : D → ℕ → List ℕ → Type 0) (disk : D) where
  -- the store of a journal that was opened
  pub store_opened : (j k : JournalTold D) → k ≡ j → j.is_sure ≡ true → j.limit ≡ MAX_JOURNAL → IfTold (bytes disk) (λ b. MAX_JOURNAL < length b → ⊥) → AreEntries (bytes disk) j.entries → HasGate (bytes disk) j.gate
      → ((c : List ℕ) → images j.disk c → Stands c j.entries) → LeavesOnly clock images_since disk j.disk (OpenedFrom (images disk)) → faults disk ≤ faults j.disk → InRecords j.entries
      → Opens bytes faults clock images images_since disk k
  store_opened j k same sure limit long stand gate each moments later are = subst (Opens bytes faults clock images images_since disk) (sym same) (record {
    sure = sure;
    limit = limit;
    has = record { within = not_long (bytes disk) long; stand = stand; records = are };
    gate = gate;
    each = each;
    moments = moments;
    later = later;
  })

  -- no journal was opened
  pub journal_refused : (new : D) (why : JournalError) (e : OpenError) → IfTold (bytes disk) (λ b. MAX_JOURNAL < length b → IsFullOrCause why) → IfTold (bytes disk) (λ b. Refuses MAX_JOURNAL b why)
      → HasCauseWhere (why ≡ journal.DiskFault) (faults disk) (faults new) → LeavesOnly clock images_since disk new (OpenedFrom (images disk)) → e ≡ error_of_journal why
      → Closes bytes faults clock images images_since RefusesStore disk new e
  journal_refused new why e first refuses cause moments is = subst (λ (z : OpenError). Closes bytes faults clock images images_since RefusesStore disk new z) (sym is) (record {
    why = journal_closes (bytes disk) (Rose (faults disk) (faults new)) why first refuses cause.rose;
    moments = moments;
    later = cause.later;
  })
