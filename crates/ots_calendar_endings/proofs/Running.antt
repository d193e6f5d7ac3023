-- What is done on a journal, from opening it on.
use Rattle.std.proofs.Common.{◌≡◌, ◌≤◌, inl, inr, ℕ, List, [], Option, sym, ap, subst, ◌∙◌, refl, append-nil, arith}
use Rattle.ots_base.specs.Cause.{Rose}
use Rattle.ots_disk.specs.Disk.{LeavesOnly}
use Rattle.ots_disk.specs.Moments.{joined, started, weaker}
use Rattle.ots_journal.specs.declared.entry.Entry.{Entry}
use Rattle.ots_journal.specs.Image.{Stands}
use Rattle.ots_journal.specs.Journal.{JournalTold}
use Rattle.ots_journal.specs.Opening.{OpenedFrom}
use Rattle.ots_calendar_text.specs.Refusal.{refusal_text}
use Rattle.ots_calendar_text.specs.declared.status.DaemonStatus.{DaemonStatus}
use Rattle.ots_calendar_text.specs.declared.status.DaemonStatus.TheVariants.{OutOfMemory}
use Rattle.ots_opening.specs.Images.{StandsAfter}
use Rattle.ots_opening.specs.declared.errors.OpenError.{OpenError}
use Rattle.ots_opening.specs.Opening.{Closes, MayClose, is_refused, disk_failed as failed, no_memory as no_room, Opens}
use Rattle.ots_calendar_endings.specs.Found.{HasBook, IsStatusOf, OpensBook, RefusesBook, open_status}
use Rattle.ots_calendar_endings.specs.Moments.{KeepsFound, OpenedOrRan, StandsWith}
use Rattle.ots_calendar_endings.specs.Printed.{PrintsLast}
use Rattle.ots_calendar_endings.specs.RunEnd.{Comes, as_defined, not_read, disk_failed, no_memory, RunEnd, Ends, nowhere, refused}
use Rattle.ots_calendar_endings.specs.Told.{LeavesBetween}
use Rattle.ots_calendar_endings.specs.With.{WithBook, WithJournal, is_opened, is_refused as not_opened}

-- a count that rose later rose
pub rose_later : (a b c : ℕ) → a ≤ b → Rose b c → Rose a c
rose_later a b c le rose = omega (arith, le, rose)

-- from opening on, no fewer were counted
pub opened_later : {D : Type 0} (faults : D → ℕ) (disk mid last new : D) → new ≡ last → faults disk ≤ faults mid → faults mid ≤ faults last → faults disk ≤ faults new
opened_later {D} faults disk mid last new same first then = subst (λ (z : D). faults disk ≤ faults z) (sym same) (omega (arith, first, then))

comes_as : {P Q : RunEnd → Type 0} {stops_at : List ℕ → Type 0} {d f : Type 0} (e : RunEnd) → (P e → Q e) → (d → f) → Comes P stops_at d e → Comes Q stops_at f e
comes_as e p rose (as_defined a) = as_defined (p a)
comes_as e p rose (not_read name at is) = not_read name at is
comes_as e p rose (disk_failed fault is) = disk_failed (rose fault) is
comes_as e p rose (no_memory is) = no_memory is

-- ---- what is done on a journal that was opened

module _ {D : Type 0} (bytes : D → Option (List ℕ)) (faults clock : D → ℕ) (images : D → List ℕ → Type 0) (images_since : D → ℕ → List ℕ → Type 0) where
  module _ (Has : Option (List ℕ) → List Entry → Type 0) (Refuses : Option (List ℕ) → OpenError → Type 0) (answers : ℕ → List Entry → RunEnd → Type 0) (printing : Type 0) (taken now : Option (List ℕ)) (r : DaemonStatus) where
    pub journal_ends : (disk : D) (j : JournalTold D) (last new : D) → new ≡ last → Opens bytes faults clock images images_since disk j → Has (bytes disk) j.entries
        → Ends (Comes (answers j.gate j.entries) nowhere (Rose (faults j.disk) (faults last))) (images last) printing taken now r
        → Ends (Comes (WithJournal Has Refuses (bytes disk) answers) nowhere (Rose (faults disk) (faults new))) (images new) printing taken now r
    journal_ends disk j last new same opens has h =
        subst (λ (z : D). Ends (Comes (WithJournal Has Refuses (bytes disk) answers) nowhere (Rose (faults disk) (faults z))) (images z) printing taken now r) (sym same) (record {
          ending = h.ending;
          comes = comes_as h.ending (λ a. is_opened j.gate j.entries has opens.gate a) (rose_later (faults disk) (faults j.disk) (faults last) opens.later) h.comes;
          stand = h.stand;
          printed = h.printed;
        })

    pub no_journal : (disk new : D) (s : DaemonStatus) → IsStatusOf (Closes bytes faults clock images images_since Refuses disk new) s
        → PrintsLast printing s (refusal_text [] s) taken now r
        → Ends (Comes (WithJournal Has Refuses (bytes disk) answers) nowhere (Rose (faults disk) (faults new))) (images new) printing taken now r
    no_journal disk new s closes printed = record { ending = refused [] s; comes = by closes.such.why; stand = tt; printed = printed }
      where
        by : MayClose (Refuses (bytes disk)) (Rose (faults disk) (faults new)) closes.error → Comes (WithJournal Has Refuses (bytes disk) answers) nowhere (Rose (faults disk) (faults new)) (refused [] s)
        by (is_refused h) = as_defined (not_opened closes.error h (ap (refused []) closes.status))
        by (failed rose fault) = disk_failed rose (ap (refused []) (closes.status ∙ ap open_status fault))
        by (no_room none) = no_memory (ap (refused []) (closes.status ∙ ap open_status none))

  module _ (answers : ℕ → List Entry → RunEnd → Type 0) (printing : Type 0) (taken now : Option (List ℕ)) (r : DaemonStatus) where
    pub opened_ends : (disk : D) (j : JournalTold D) (last new : D) → new ≡ last → OpensBook bytes faults clock images images_since disk j
        → Ends (Comes (answers j.gate j.entries) nowhere (Rose (faults j.disk) (faults last))) (images last) printing taken now r
        → Ends (Comes (WithBook (bytes disk) answers) nowhere (Rose (faults disk) (faults new))) (images new) printing taken now r
    opened_ends disk j last new same opens h =
        journal_ends HasBook RefusesBook answers printing taken now r disk j last new same opens.store (record { store = opens.store.has; are_true = opens.are_true }) h

    pub closed_ends : (disk new : D) (s : DaemonStatus) → IsStatusOf (Closes bytes faults clock images images_since RefusesBook disk new) s
        → PrintsLast printing s (refusal_text [] s) taken now r
        → Ends (Comes (WithBook (bytes disk) answers) nowhere (Rose (faults disk) (faults new))) (images new) printing taken now r
    closed_ends disk new s closes printed = no_journal HasBook RefusesBook answers printing taken now r disk new s closes printed

  pub journal_moments : (adds : List Entry → List Entry → Type 0) (disk : D) (j : JournalTold D) (last new : D) → new ≡ last → Opens bytes faults clock images images_since disk j
      → LeavesOnly clock images_since j.disk last (StandsWith (adds j.entries) j.entries)
      → LeavesOnly clock images_since disk new (OpenedOrRan (bytes disk) (images disk) adds)
  journal_moments adds disk j last new same opens ran =
      subst (λ (z : D). LeavesOnly clock images_since disk z (OpenedOrRan (bytes disk) (images disk) adds)) (sym same)
      (joined clock images_since disk j.disk last _ _ _ opens.moments ran (λ c h. inl h) (λ c h. inr (j.entries, opens.has.stand, h)))

  pub opened_moments : (adds : List Entry → List Entry → Type 0) (disk : D) (j : JournalTold D) (last new : D) → new ≡ last → OpensBook bytes faults clock images images_since disk j
      → LeavesOnly clock images_since j.disk last (StandsWith (adds j.entries) j.entries)
      → LeavesOnly clock images_since disk new (OpenedOrRan (bytes disk) (images disk) adds)
  opened_moments adds disk j last new same opens ran = journal_moments adds disk j last new same opens.store ran

-- the same, by the numbers of moments
pub leaves : {D : Type 0} (clock : D → ℕ) (images_since : D → ℕ → List ℕ → Type 0) (old new : D) (P : List ℕ → Type 0) → LeavesOnly clock images_since old new P
    → LeavesBetween (clock old) (clock new) (images_since old) (images_since new) P
leaves clock images_since old new P run = record { later = run.later; each = run.each; before = run.before }

-- an image stands for entries after those found
pub following : (adds : List Entry → Type 0) (entries : List Entry) (c : List ℕ) → StandsWith adds entries c → StandsAfter entries c
following adds entries c (inl stands) = ([], subst (λ (z : List Entry). Stands c z) (sym (append-nil entries)) stands)
following adds entries c (inr (added, may, stands)) = (added, stands)

-- what was done on a journal keeps what was found
pub opened_kept : {D : Type 0} (bytes : D → Option (List ℕ)) (faults clock : D → ℕ) (images : D → List ℕ → Type 0) (images_since : D → ℕ → List ℕ → Type 0)
    (counts_now : (d : D) (t : ℕ) (c : List ℕ) → t ≤ clock d → images d c → images_since d t c) (adds : List Entry → List Entry → Type 0) (disk : D) (j : JournalTold D) (last new : D) → new ≡ last
    → Opens bytes faults clock images images_since disk j → LeavesOnly clock images_since j.disk last (StandsWith (adds j.entries) j.entries) → KeepsFound (bytes disk) (images new)
opened_kept bytes faults clock images images_since counts_now adds disk j last new same opens run =
    (j.entries, opens.has.stand, λ c image. following (adds j.entries) j.entries c (run.each c (counts_now last (clock j.disk) c run.later (subst (λ z. images z c) same image))))

-- the disk was not called
pub idle_moments : {D : Type 0} (clock : D → ℕ) (images_since : D → ℕ → List ℕ → Type 0) (told : Option (List ℕ)) (images : List ℕ → Type 0) (adds : List Entry → List Entry → Type 0) (old new : D)
    → LeavesOnly clock images_since old new (OpenedFrom images) → LeavesOnly clock images_since old new (OpenedOrRan told images adds)
idle_moments clock images_since told images adds old new h = weaker clock images_since old new _ _ h (λ c left. inl left)

pub uncalled : {D : Type 0} (clock : D → ℕ) (images : D → List ℕ → Type 0) (images_since : D → ℕ → List ℕ → Type 0) (only_now : (d : D) (c : List ℕ) → images_since d (clock d) c → images d c) (disk : D)
    → LeavesOnly clock images_since disk disk (OpenedFrom (images disk))
uncalled clock images images_since only_now disk = started clock images_since disk _ (λ c left. inl (only_now disk c left))

pub memory_ends : (may : RunEnd → Type 0) (disk : Type 0) (images : List ℕ → Type 0) (printing : Type 0) (taken now : Option (List ℕ)) (r : DaemonStatus)
    → PrintsLast printing OutOfMemory [] taken now r → Ends (Comes may nowhere disk) images printing taken now r
memory_ends may disk images printing taken now r printed = record { ending = refused [] OutOfMemory; comes = no_memory refl; stand = tt; printed = printed }

pub refused_as : (printing : Type 0) (taken now : Option (List ℕ)) (s t r : DaemonStatus) → s ≡ t
    → PrintsLast printing s (refusal_text [] s) taken now r → PrintsLast printing t (refusal_text [] t) taken now r
refused_as printing taken now s t r is printed = subst (λ (z : DaemonStatus). PrintsLast printing z (refusal_text [] z) taken now r) is printed
