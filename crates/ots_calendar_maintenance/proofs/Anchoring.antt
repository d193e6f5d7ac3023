-- The command `anchor`, by what the book answers.
use Rattle.std.proofs.Common.{◌≡◌, ◌<◌, ◌⊎◌, inl, inr, ℕ, List, [], true, false, Option, Some, None, refl, sym, ap, subst, ◌∙◌, arith}
use Rattle.std.specs.Prelude.{Result, Ok, Err, OnOk}
use Rattle.ots_anchor.specs.declared.search.FindError.{FindError}
use Rattle.ots_anchor.specs.declared.search.FindError.TheVariants as find
use Rattle.ots_anchor.specs.Find.{IsFindError}
use Rattle.ots_block.specs.Block.{Contents, txids}
use Rattle.ots_disk.specs.Disk.{LeavesOnly}
use Rattle.ots_disk.specs.Moments.{started, weaker}
use Rattle.ots_journal.specs.declared.entry.Entry.{Entry}
use Rattle.ots_journal.specs.declared.errors.AppendError.{AppendError}
use Rattle.ots_journal.specs.declared.errors.AppendError.TheVariants as append
use Rattle.ots_journal.specs.Image.{Stands}
use Rattle.ots_journal.specs.Journal.{JournalTold, size_with}
use Rattle.ots_merkle.specs.BlockTree.{block_root}
use Rattle.ots_store.specs.declared.anchor.Anchor.{Anchor}
use Rattle.ots_store.specs.Order.{records_of}
use Rattle.ots_store.specs.Store.{Added}
use Rattle.ots_calendar.specs.declared.errors.AnchorError.{AnchorError}
use Rattle.ots_calendar.specs.declared.errors.AnchorError.TheVariants as why
use Rattle.ots_calendar.specs.Anchors.{AsksAnchor, FindsAnchor, GivesAnchor, GivesNone, HasBadRoot, anchor_answer, find_error, open_tips, roots}
use Rattle.ots_calendar_text.specs.Refusal.{refusal_text}
use Rattle.ots_calendar_text.specs.declared.status.DaemonStatus.{DaemonStatus}
use Rattle.ots_calendar_text.specs.declared.status.DaemonStatus.TheVariants.{Full}
use Rattle.ots_calendar_maintenance.specs.Anchor.{AddsAnchor, AnchorAnswers, bad_root, none_found, added, full, HasRoot, anchor_entries, anchor_status, anchor_text}
use Rattle.ots_calendar_endings.specs.RunEnd.{AllStand, Comes, as_defined, disk_failed, no_memory, RunEnd, Ends, declined, done, nowhere}
use Rattle.ots_calendar_endings.specs.Moments.{StandsWith}
use Rattle.ots_calendar_endings.specs.Printed.{PrintsLast}

-- what is known of the journal after a refusal
abbrev left_by : List Entry → AnchorError → Option (List Entry)
left_by entries (why.BadRoot header computed) = Some entries
left_by entries why.NoTip = Some entries
left_by entries (why.TransactionTooLong bytes) = Some entries
left_by entries why.DiskFault = None
left_by entries (why.Full need limit) = Some entries
left_by entries why.OutOfMemory = None

abbrev pub anchor_ending : List Entry → Result Anchor AnchorError → RunEnd
anchor_ending entries (Ok anchor) = done entries (anchor_text anchor)
anchor_ending entries (Err e) = record { status = anchor_status e; text = refusal_text [] (anchor_status e); entries = left_by entries e }

-- What is to be shown of an answer.
pub record AnchorEnds {D : Type 0} (clock : D → ℕ) (images : D → List ℕ → Type 0) (images_since : D → ℕ → List ℕ → Type 0) (disk : Type 0) (block : Contents) (height : ℕ)
    (old new : JournalTold D) (r : Result Anchor AnchorError) : Type 0 where
  pub comes : Comes (AnchorAnswers old.limit block height old.gate old.entries) nowhere disk (anchor_ending new.entries r)
  pub stand : AllStand (images new.disk) (anchor_ending new.entries r).entries
  pub moments : LeavesOnly clock images_since old.disk new.disk (StandsWith (AddsAnchor block height old.entries) old.entries)

module _ {D : Type 0} (bytes : D → Option (List ℕ)) (clock : D → ℕ) (images : D → List ℕ → Type 0) (images_since : D → ℕ → List ℕ → Type 0) (disk : Type 0)
    (only_now : (d : D) (c : List ℕ) → images_since d (clock d) c → images d c) (block : Contents) (height : ℕ) (old new : JournalTold D)
    (each : (c : List ℕ) → images old.disk c → Stands c old.entries) where
  abbrev Shown : Result Anchor AnchorError → Type 0
  Shown r = AnchorEnds clock images images_since disk block height old new r

  -- nothing was written
  still : new ≡ old → LeavesOnly clock images_since old.disk new.disk (StandsWith (AddsAnchor block height old.entries) old.entries)
  still same = subst (λ (j : JournalTold D). LeavesOnly clock images_since old.disk j.disk (StandsWith (AddsAnchor block height old.entries) old.entries)) (sym same)
      (started clock images_since old.disk _ (λ c left. inl (each c (only_now old.disk c left))))

  all_stand : new ≡ old → (c : List ℕ) → images new.disk c → Stands c new.entries
  all_stand same = subst (λ (j : JournalTold D). (c : List ℕ) → images j.disk c → Stands c j.entries) (sym same) each

  module _ (root : HasRoot block) (anchor : Anchor) (finds : FindsAnchor (records_of old.entries) block height anchor) where
    moved : {r : Result (Unit {0}) AppendError} → Added clock images_since old new (anchor_entries anchor) r
        → LeavesOnly clock images_since old.disk new.disk (StandsWith (AddsAnchor block height old.entries) old.entries)
    moved a = weaker clock images_since old.disk new.disk _ _ a.at_any_moment (λ c stands. elim stands [
      | inl s ↦ inl s
      | inr s ↦ inr (anchor_entries anchor, record { root = root; anchor = anchor; finds = finds; is = refl }, s)
    ])

    put_anchor : (r : Result (Unit {0}) AppendError) → Added clock images_since old new (anchor_entries anchor) r
        → OnOk r ((c : List ℕ) → images new.disk c → Stands c new.entries) → (r ≡ Err append.DiskFault → disk) → Shown (anchor_answer anchor r)
    put_anchor (Ok _) a kept rose = record {
      comes = as_defined (added root anchor finds
          (let no : old.limit < size_with old.gate (anchor_entries anchor) → ⊥ = λ over. elim (a.full over) [ inl e ↦ absurd cc | inr e ↦ absurd cc ] in omega (arith, no))
          (ap (λ (z : List Entry). done z (anchor_text anchor)) a.outcome.entries));
      stand = kept;
      moments = moved a;
    }
    put_anchor (Err append.DiskFault) a kept rose = record { comes = disk_failed (rose refl) refl; stand = tt; moments = moved a }
    put_anchor (Err (append.Full need limit)) a kept rose = record {
      comes = as_defined (full root anchor finds a.outcome.3
          (let need_is = a.outcome.1 in let limit_is = a.outcome.2 in λ i. declined ((a.outcome.0 i).entries) (Full (need_is i) (limit_is i))));
      stand = all_stand a.outcome.0;
      moments = still a.outcome.0;
    }
    put_anchor (Err append.OutOfMemory) a kept rose = record { comes = no_memory refl; stand = tt; moments = still a.outcome }

  kept_of : (anchor : Anchor) (r : Result (Unit {0}) AppendError) → OnOk (anchor_answer anchor r) ((c : List ℕ) → images new.disk c → Stands c new.entries)
      → OnOk r ((c : List ℕ) → images new.disk c → Stands c new.entries)
  kept_of anchor (Ok _) h = h
  kept_of anchor (Err e) h = tt

  -- no anchor is found
  found_none : HasRoot block → new ≡ old → (f : FindError) → IsFindError block (roots (open_tips (records_of old.entries))) f → Shown (Err (find_error f))
  found_none root same find.NoTip is = record {
    comes = as_defined (none_found root why.NoTip (record { why = find.NoTip; is_why = is; error_is = refl }) tt (ap (λ (j : JournalTold D). declined j.entries (anchor_status why.NoTip)) same));
    stand = all_stand same;
    moments = still same;
  }
  found_none root same (find.TransactionTooLong n) is = record {
    comes = as_defined (none_found root (why.TransactionTooLong n) (record { why = find.TransactionTooLong n; is_why = is; error_is = refl }) tt
        (ap (λ (j : JournalTold D). declined j.entries (anchor_status (why.TransactionTooLong n))) same));
    stand = all_stand same;
    moments = still same;
  }
  found_none root same find.OutOfMemory is = record { comes = no_memory refl; stand = tt; moments = still same }

  answered : (r : Result Anchor AnchorError) → HasRoot block → GivesAnchor clock images_since block height new r old ⊎ GivesNone block new r old
      → OnOk r ((c : List ℕ) → images new.disk c → Stands c new.entries) → (r ≡ Err why.DiskFault → disk) → Shown r
  answered r root (inl g) kept rose = subst Shown (sym g.answer) (put_anchor root g.anchor g.finds g.stored g.stores
      (kept_of g.anchor g.stored (subst (λ (z : Result Anchor AnchorError). OnOk z ((c : List ℕ) → images new.disk c → Stands c new.entries)) g.answer kept))
      (λ is. rose (g.answer ∙ ap (anchor_answer g.anchor) is)))
  answered r root (inr g) kept rose = subst Shown (sym (g.answer ∙ ap (λ (z : AnchorError). Err z) g.finds.error_is)) (found_none root g.same g.finds.why g.finds.is_why)

  nothing : (e : AnchorError) → new ≡ old → HasBadRoot block e ⊎ (e ≡ why.OutOfMemory) → Shown (Err e)
  nothing e same (inl bad) = subst (λ (z : AnchorError). Shown (Err z)) (sym bad.both) (record {
    comes = as_defined (bad_root bad.differs (ap (λ (j : JournalTold D). declined j.entries (anchor_status (why.BadRoot block.header.root (block_root (txids block))))) same));
    stand = all_stand same;
    moments = still same;
  })
  nothing e same (inr is) = subst (λ (z : AnchorError). Shown (Err z)) (sym is) (record { comes = no_memory refl; stand = tt; moments = still same })

  pub anchor_ends : (r : Result Anchor AnchorError) → old.is_sure ≡ true → AsksAnchor bytes clock images_since block height old new r
      → OnOk r ((c : List ℕ) → images new.disk c → Stands c new.entries) → (r ≡ Err why.DiskFault → disk) → AnchorEnds clock images images_since disk block height old new r
  anchor_ends r sure (inl (root, inl g)) kept rose =
      answered r root (subst (λ (mid : JournalTold D). GivesAnchor clock images_since block height new r mid ⊎ GivesNone block new r mid) (g.refreshed.already sure) g.goes_on) kept rose
  anchor_ends r sure (inl (root, inr (stops, is))) kept rose = absurd (let unsure = stops.unrefreshed.was_unsure in let clash : true ≡ false = sym sure ∙ unsure in cc)
  anchor_ends r sure (inr n) kept rose = subst Shown (sym n.answer) (nothing n.error n.same n.why)

-- the answer is printed
pub anchor_printed : {D : Type 0} {clock : D → ℕ} {images : D → List ℕ → Type 0} {images_since : D → ℕ → List ℕ → Type 0} {disk : Type 0} {block : Contents} {height : ℕ} {old new : JournalTold D}
    {a : Result Anchor AnchorError} {printing : Type 0} {taken now : Option (List ℕ)} {r : DaemonStatus} → AnchorEnds clock images images_since disk block height old new a
    → PrintsLast printing (anchor_ending new.entries a).status (anchor_ending new.entries a).text taken now r
    → Ends (Comes (AnchorAnswers old.limit block height old.gate old.entries) nowhere disk) (images new.disk) printing taken now r
anchor_printed {new = new} {a = a} h printed = record { ending = anchor_ending new.entries a; comes = h.comes; stand = h.stand; printed = printed }
