-- An append that is refused, and one whose group is settled.
use Rattle.std.proofs.Common.{◌≡◌, ◌<◌, ◌≤◌, ℕ, List, length, true, refl, ap, arith, Result, Ok, Err, OnErr, is_err, IsOk}
use Rattle.ots_disk.specs.Disk.{LeavesOnly}
use Rattle.ots_journal.specs.Image.{payload_bytes}
use Rattle.ots_journal.specs.Journal.{JournalTold, StandsForEither, size_with, Puts}
use Rattle.ots_journal.specs.declared.entry.Entry.{Entry}
use Rattle.ots_journal.specs.declared.errors.AppendError.{AppendError}
use Rattle.ots_journal.specs.declared.errors.AppendError.TheVariants.{Full, OutOfMemory}

module _ {D : Type 0} (clock : D → ℕ) (images_since : D → ℕ → List ℕ → Type 0) (j : JournalTold D) (group : List Entry) (here : LeavesOnly clock images_since j.disk j.disk (StandsForEither j.entries group)) where
  pub puts_full : (need : ℕ) → need ≡ size_with j.gate group → j.limit < need → Puts clock images_since j j group (Err (Full need j.limit))
  puts_full need is over = record {
    outcome = (refl, is, refl, omega (arith, is, over));
    full = λ _. ap (λ (n : ℕ). let r : Result ℕ AppendError = Err (Full n j.limit) in r) is;
    at_any_moment = here;
    room = record { enough = λ entries bytes e. absurd (cc); entries_left = omega arith; bytes_left = omega arith };
  }

  pub puts_nothing : size_with j.gate group ≤ j.limit → (length group ≤ j.spare_entries → payload_bytes group ≤ j.spare_bytes → ⊥) → Puts clock images_since j j group (Err OutOfMemory)
  puts_nothing fits short = record {
    outcome = refl;
    full = λ over. absurd (omega (arith, fits, over));
    at_any_moment = here;
    room = record { enough = λ entries bytes e. short entries bytes; entries_left = omega arith; bytes_left = omega arith };
  }

pub at_err : {T E P : Type 0} (r : Result T E) → is_err r ≡ true → OnErr r P → P
at_err (Ok x) is p = absurd (cc)
at_err (Err e) is p = p

pub not_ok : {T E : Type 0} (r : Result T E) → is_err r ≡ true → IsOk r → ⊥
not_ok (Ok x) is p = absurd (cc)
not_ok (Err e) is p = absurd (cc)
