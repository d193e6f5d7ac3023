-- What the journal of entries stands for.
use Rattle.std.proofs.Common.{◌≡◌, ◌≢◌, List, [], ◌∷◌, refl, ap, subst, arith}
use Rattle.std.specs.Prelude.{map}
use Rattle.std.specs.List.{AllByRecursion}
use Rattle.ots_calendar.specs.Answer.{answer, answer_of}
use Rattle.ots_calendar.specs.declared.answer.Answer.TheVariants.{Pending}
use Rattle.ots_examples.specs.OneRound.{OneRound, closed, commit}
use Rattle.ots_examples.specs.OnDisk.{groups, image}
use Rattle.ots_examples.proofs.Cycle.{least_here}
use Rattle.ots_journal.specs.Image.{open_gate, FitsGroup, Stands, entries_of}
use Rattle.ots_journal.specs.declared.entry.Entry.{Entry}
use Rattle.ots_journal.proofs.Standing.{stands_closed}
use Rattle.ots_store.specs.Order.{records_of}
use Rattle.ots_store.specs.Records.{IsRecord, entry_of}
use Rattle.ots_store.specs.Store.{InRecords}
use Rattle.ots_store.proofs.Adding.{record_fits}

groups_fit : (entries : List Entry) → AllByRecursion IsRecord entries → AllByRecursion FitsGroup (groups entries)
groups_fit [] are = tt
groups_fit (entry ∷ entries) are = (record { some = omega arith; most = omega arith; payloads = (record_fits entry are.0, tt) }, groups_fit entries are.1)

together : (entries : List Entry) → entries_of (groups entries) ≡ entries
together [] = refl
together (entry ∷ entries) = ap (λ (l : List Entry). entry ∷ l) (together entries)

closed_gate : 0 ≢ open_gate
closed_gate is = absurd (omega (arith, is))

pub image_stands : (entries : List Entry) → InRecords entries → Stands (image entries) entries
image_stands entries are =
    subst (λ (l : List Entry). Stands (image entries) l) (together entries) (stands_closed (groups entries) 0 [] (image entries) (groups_fit entries are.each) refl closed_gate)

pub still_pending : (r : OneRound) → answer (records_of (map entry_of (closed r))) (commit r) ≡ Pending
still_pending r = ap (answer_of (closed r)) (least_here r)
