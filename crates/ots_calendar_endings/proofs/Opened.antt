-- What opening the journal comes to.
use Rattle.std.proofs.Common.{◌≡◌, inl, inr, ℕ, List, Option, refl, sym, subst}
use Rattle.ots_base.specs.Cause.{Rose}
use Rattle.ots_journal.specs.Journal.{JournalTold}
use Rattle.ots_journal.specs.declared.entry.Entry.{Entry}
use Rattle.ots_store.specs.Opening.{IfBad}
use Rattle.ots_store.specs.Order.{records_of}
use Rattle.ots_store.specs.Records.{Record}
use Rattle.ots_store.specs.declared.errors.StoreError.{StoreError}
use Rattle.ots_store.specs.declared.errors.StoreError.TheVariants as store
use Rattle.ots_opening.specs.declared.errors.OpenError.{OpenError}
use Rattle.ots_opening.specs.Opening.{Closes, HasRecords, MayClose, is_refused, disk_failed, no_memory, Opens, RefusesStore, error_of_store}
use Rattle.ots_calendar.specs.Values.{FirstUntrue}
use Rattle.ots_calendar_text.specs.declared.status.DaemonStatus.{DaemonStatus}
use Rattle.ots_calendar_endings.specs.Found.{IsStatusOf, RefusesBook, open_status}

module _ (told : Option (List ℕ)) (disk : Type 0) where
  book_closes : (entries : List Entry) (why : StoreError) → HasRecords told entries → IfBad why (FirstUntrue (records_of entries)) → MayClose (RefusesBook told) disk (error_of_store why)
  book_closes entries (store.BadRecord i) has untrue = is_refused (inr (record { entries = entries; has = has; index = i; untrue = untrue; error = refl }))
  book_closes entries store.OutOfMemory has untrue = no_memory refl

  as_book : (e : OpenError) → MayClose (RefusesStore told) disk e → MayClose (RefusesBook told) disk e
  as_book e (is_refused r) = is_refused (inl r)
  as_book e (disk_failed rose is) = disk_failed rose is
  as_book e (no_memory is) = no_memory is

module _ {D : Type 0} (bytes : D → Option (List ℕ)) (faults clock : D → ℕ) (images : D → List ℕ → Type 0) (images_since : D → ℕ → List ℕ → Type 0) (disk : D) where
  -- no store, and so no book
  pub store_refused : (new : D) (s : DaemonStatus) → IsStatusOf (Closes bytes faults clock images images_since RefusesStore disk new) s
      → IsStatusOf (Closes bytes faults clock images images_since RefusesBook disk new) s
  store_refused new s closes = record {
    error = closes.error;
    such = record {
      why = as_book (bytes disk) (Rose (faults disk) (faults new)) closes.error closes.such.why;
      moments = closes.such.moments;
      later = closes.such.later;
    };
    status = closes.status;
  }

  -- a store that is no book
  pub book_refused : (j : JournalTold D) (records : List Record) (why : StoreError) (new : D) (e : OpenError) (s : DaemonStatus) → Opens bytes faults clock images images_since disk j → records ≡ records_of j.entries
      → IfBad why (FirstUntrue records) → new ≡ j.disk → e ≡ error_of_store why → s ≡ open_status e → IsStatusOf (Closes bytes faults clock images images_since RefusesBook disk new) s
  book_refused j records why new e s opens are bad same is as_status = record {
    error = e;
    such = subst (λ (z : D). Closes bytes faults clock images images_since RefusesBook disk z e) (sym same)
        (subst (λ (z : OpenError). Closes bytes faults clock images images_since RefusesBook disk j.disk z) (sym is) (record {
          why = book_closes (bytes disk) (Rose (faults disk) (faults j.disk)) j.entries why opens.has (subst (λ (z : List Record). IfBad why (FirstUntrue z)) are bad);
          moments = opens.moments;
          later = opens.later;
        }));
    status = as_status;
  }
