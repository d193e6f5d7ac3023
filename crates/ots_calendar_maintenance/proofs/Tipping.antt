-- The command `tip`, by what the book answers.
use Rattle.std.proofs.Common.{◌≡◌, ◌<◌, inl, inr, ℕ, List, [], true, false, Option, Some, None, refl, sym, ap, subst, ◌∙◌, arith}
use Rattle.std.specs.Prelude.{Result, Ok, Err, OnOk}
use Rattle.ots_disk.specs.Disk.{LeavesOnly}
use Rattle.ots_disk.specs.Moments.{started, weaker}
use Rattle.ots_journal.specs.declared.entry.Entry.{Entry}
use Rattle.ots_journal.specs.declared.errors.AppendError.{AppendError}
use Rattle.ots_journal.specs.declared.errors.AppendError.TheVariants as append
use Rattle.ots_journal.specs.Image.{Stands}
use Rattle.ots_journal.specs.Journal.{JournalTold, size_with}
use Rattle.ots_store.specs.declared.tip.Tip.{Tip}
use Rattle.ots_store.specs.Order.{records_of}
use Rattle.ots_store.specs.Store.{Added, MakesRoom, with_room}
use Rattle.ots_calendar.specs.declared.errors.TipError.{TipError}
use Rattle.ots_calendar.specs.declared.errors.TipError.TheVariants as why
use Rattle.ots_calendar.specs.Tips.{AsksTip, IsNextTip, StoresTip, TipAfter, tip_answer}
use Rattle.ots_calendar_text.specs.Lines.{tip_line}
use Rattle.ots_calendar_text.specs.Refusal.{refusal_text}
use Rattle.ots_calendar_text.specs.declared.status.DaemonStatus.{DaemonStatus}
use Rattle.ots_calendar_text.specs.declared.status.DaemonStatus.TheVariants.{NothingNew, Full}
use Rattle.ots_calendar_endings.specs.RunEnd.{AllStand, Comes, as_defined, disk_failed, no_memory, RunEnd, Ends, declined, done, nowhere}
use Rattle.ots_calendar_endings.specs.Moments.{StandsWith}
use Rattle.ots_calendar_endings.specs.Printed.{PrintsLast}
use Rattle.ots_calendar_maintenance.specs.Tip.{AddsTip, IsStored, TipAnswers, nothing_new, stored, added, full, tip_entries, tip_status}

-- what is known of the journal after a refusal
abbrev left_by : List Entry → TipError → Option (List Entry)
left_by entries why.NothingNew = Some entries
left_by entries (why.Full need limit) = Some entries
left_by entries why.DiskFault = None
left_by entries why.OutOfMemory = None

abbrev pub tip_ending : List Entry → Result Tip TipError → RunEnd
tip_ending entries (Ok tip) = done entries (tip_line tip.first tip.count tip.root)
tip_ending entries (Err e) = record { status = tip_status e; text = refusal_text [] (tip_status e); entries = left_by entries e }

-- What is to be shown of an answer.
pub record TipEnds {D : Type 0} (clock : D → ℕ) (images : D → List ℕ → Type 0) (images_since : D → ℕ → List ℕ → Type 0) (disk : Type 0) (old new : JournalTold D)
    (r : Result Tip TipError) : Type 0 where
  pub comes : Comes (TipAnswers old.limit old.gate old.entries) nowhere disk (tip_ending new.entries r)
  pub stand : AllStand (images new.disk) (tip_ending new.entries r).entries
  pub moments : LeavesOnly clock images_since old.disk new.disk (StandsWith (AddsTip old.entries) old.entries)

module _ {D : Type 0} (bytes : D → Option (List ℕ)) (clock : D → ℕ) (images : D → List ℕ → Type 0) (images_since : D → ℕ → List ℕ → Type 0) (disk : Type 0)
    (only_now : (d : D) (c : List ℕ) → images_since d (clock d) c → images d c) (old new : JournalTold D)
    (each : (c : List ℕ) → images old.disk c → Stands c old.entries) where
  abbrev Shown : Result Tip TipError → Type 0
  Shown r = TipEnds clock images images_since disk old new r

  -- nothing was written
  still : new ≡ old → LeavesOnly clock images_since old.disk new.disk (StandsWith (AddsTip old.entries) old.entries)
  still same = subst (λ (j : JournalTold D). LeavesOnly clock images_since old.disk j.disk (StandsWith (AddsTip old.entries) old.entries)) (sym same)
      (started clock images_since old.disk _ (λ c left. inl (each c (only_now old.disk c left))))

  all_stand : new ≡ old → (c : List ℕ) → images new.disk c → Stands c new.entries
  all_stand same = subst (λ (j : JournalTold D). (c : List ℕ) → images j.disk c → Stands c j.entries) (sym same) each

  module _ (tip : Tip) (next : IsNextTip (records_of old.entries) tip) where
    put_tip : (r : Result (Unit {0}) AppendError) → ¬ IsStored old.entries tip → Added clock images_since old new (tip_entries tip) r
        → OnOk r ((c : List ℕ) → images new.disk c → Stands c new.entries) → (r ≡ Err append.DiskFault → disk) → Shown (tip_answer tip r)
    put_tip (Ok _) fresh a kept rose = record {
      comes = as_defined (added tip next fresh
          (let no : old.limit < size_with old.gate (tip_entries tip) → ⊥ = λ over. elim (a.full over) [ inl e ↦ absurd cc | inr e ↦ absurd cc ] in omega (arith, no))
          (ap (λ (z : List Entry). done z (tip_line tip.first tip.count tip.root)) a.outcome.entries));
      stand = kept;
      moments = weaker clock images_since old.disk new.disk _ _ a.at_any_moment (λ c stands. elim stands [
        | inl s ↦ inl s
        | inr s ↦ inr (tip_entries tip, record { tip = tip; next = next; fresh = fresh; is = refl }, s)
      ]);
    }
    put_tip (Err append.DiskFault) fresh a kept rose = record {
      comes = disk_failed (rose refl) refl;
      stand = tt;
      moments = weaker clock images_since old.disk new.disk _ _ a.at_any_moment (λ c stands. elim stands [
        | inl s ↦ inl s
        | inr s ↦ inr (tip_entries tip, record { tip = tip; next = next; fresh = fresh; is = refl }, s)
      ]);
    }
    put_tip (Err (append.Full need limit)) fresh a kept rose = record {
      comes = as_defined (full tip next fresh a.outcome.3
          (let need_is = a.outcome.1 in let limit_is = a.outcome.2 in λ i. declined ((a.outcome.0 i).entries) (Full (need_is i) (limit_is i))));
      stand = all_stand a.outcome.0;
      moments = still a.outcome.0;
    }
    put_tip (Err append.OutOfMemory) fresh a kept rose = record { comes = no_memory refl; stand = tt; moments = still a.outcome }

  stored_or_put : (tip : Tip) → IsNextTip (records_of old.entries) tip → (r : Result (Unit {0}) AppendError) → StoresTip clock images_since tip old new r
      → OnOk r ((c : List ℕ) → images new.disk c → Stands c new.entries) → (r ≡ Err append.DiskFault → disk) → Shown (tip_answer tip r)
  stored_or_put tip next r (inl (has, same, is)) kept rose = subst (λ (z : Result (Unit {0}) AppendError). Shown (tip_answer tip z)) (sym is) (record {
    comes = as_defined (stored tip next has (ap (λ (j : JournalTold D). done j.entries (tip_line tip.first tip.count tip.root)) same));
    stand = all_stand same;
    moments = still same;
  })
  stored_or_put tip next r (inr (fresh, a)) kept rose = put_tip tip next r fresh a kept rose

  kept_of : (tip : Tip) (r : Result (Unit {0}) AppendError) → OnOk (tip_answer tip r) ((c : List ℕ) → images new.disk c → Stands c new.entries)
      → OnOk r ((c : List ℕ) → images new.disk c → Stands c new.entries)
  kept_of tip (Ok _) h = h
  kept_of tip (Err e) h = tt

  fault_of : (tip : Tip) (r : Result (Unit {0}) AppendError) → (tip_answer tip r ≡ Err why.DiskFault → disk) → r ≡ Err append.DiskFault → disk
  fault_of tip r rose is = rose (ap (tip_answer tip) is)

  answered : (r : Result Tip TipError) → TipAfter clock images_since new r old
      → OnOk r ((c : List ℕ) → images new.disk c → Stands c new.entries) → (r ≡ Err why.DiskFault → disk) → Shown r
  answered r (inl (covered, same, is)) kept rose = subst Shown (sym is) (record {
    comes = as_defined (nothing_new covered (ap (λ (j : JournalTold D). declined j.entries NothingNew) same));
    stand = all_stand same;
    moments = still same;
  })
  answered r (inr g) kept rose = subst Shown (sym g.answer) (stored_or_put g.tip g.next g.stored g.stores
      (kept_of g.tip g.stored (subst (λ (z : Result Tip TipError). OnOk z ((c : List ℕ) → images new.disk c → Stands c new.entries)) g.answer kept))
      (fault_of g.tip g.stored (λ is. rose (g.answer ∙ is))))

  short : MakesRoom old new → (r : Result Tip TipError) → r ≡ Err why.OutOfMemory → Shown r
  short room r is = subst Shown (sym is) (record {
    comes = no_memory refl;
    stand = tt;
    moments = subst (λ (j : JournalTold D). LeavesOnly clock images_since old.disk j.disk (StandsWith (AddsTip old.entries) old.entries)) (sym room.same)
        (started clock images_since old.disk _ (λ c left. inl (each c (only_now old.disk c left))));
  })

module _ {D : Type 0} (bytes : D → Option (List ℕ)) (clock : D → ℕ) (images : D → List ℕ → Type 0) (images_since : D → ℕ → List ℕ → Type 0) (disk : Type 0)
    (only_now : (d : D) (c : List ℕ) → images_since d (clock d) c → images d c) (old new : JournalTold D)
    (each : (c : List ℕ) → images old.disk c → Stands c old.entries) where
  -- room in memory is no matter
  in_room : (spare_entries spare_bytes : ℕ) (r : Result Tip TipError) → TipEnds clock images images_since disk (with_room old spare_entries spare_bytes) new r → TipEnds clock images images_since disk old new r
  in_room spare_entries spare_bytes r h = record { comes = h.comes; stand = h.stand; moments = h.moments }

  pub tip_ends : (r : Result Tip TipError) → old.is_sure ≡ true → AsksTip bytes clock images_since old new r
      → OnOk r ((c : List ℕ) → images new.disk c → Stands c new.entries) → (r ≡ Err why.DiskFault → disk) → TipEnds clock images images_since disk old new r
  tip_ends r sure (inl on) kept rose =
      let g = on.goes_on in
      in_room on.spare_entries on.spare_bytes r
      (answered bytes clock images images_since disk only_now (with_room old on.spare_entries on.spare_bytes) new each r (subst (TipAfter clock images_since new r) (g.refreshed.already sure) g.goes_on) kept rose)
  tip_ends r sure (inr (inl (stop, is))) kept rose = absurd (let unsure = (stop.stops).unrefreshed.was_unsure in let clash : true ≡ false = sym sure ∙ unsure in cc)
  tip_ends r sure (inr (inr (room, is))) kept rose = short bytes clock images images_since disk only_now old new each room r is

-- the answer is printed
pub tip_printed : {D : Type 0} {clock : D → ℕ} {images : D → List ℕ → Type 0} {images_since : D → ℕ → List ℕ → Type 0} {disk : Type 0} {old new : JournalTold D} {a : Result Tip TipError}
    {printing : Type 0} {taken now : Option (List ℕ)} {r : DaemonStatus} → TipEnds clock images images_since disk old new a
    → PrintsLast printing (tip_ending new.entries a).status (tip_ending new.entries a).text taken now r
    → Ends (Comes (TipAnswers old.limit old.gate old.entries) nowhere disk) (images new.disk) printing taken now r
tip_printed {new = new} {a = a} h printed = record { ending = tip_ending new.entries a; comes = h.comes; stand = h.stand; printed = printed }
