-- What anchoring does, by how it ends.
use Rattle.std.proofs.Common.{◌≡◌, ◌∙◌, inl, inr, true, ℕ, List, [], ◌∷◌, refl, sym, ap, subst}
use Rattle.std.specs.Prelude.{Option, Result, Ok, Err}
use Rattle.ots_disk.specs.Disk.{LeavesOnly}
use Rattle.ots_block.specs.Block.{Contents}
use Rattle.ots_journal.specs.declared.errors.AppendError.{AppendError}
use Rattle.ots_journal.specs.declared.errors.AppendError.TheVariants as append
use Rattle.ots_journal.specs.Journal.{JournalTold, StandsForEither, Refreshed}
use Rattle.ots_store.specs.declared.anchor.Anchor.{Anchor}
use Rattle.ots_store.specs.Order.{records_of}
use Rattle.ots_store.specs.Records.{Record, AnchorRecord, entry_of}
use Rattle.ots_store.specs.Store.{Added}
use Rattle.ots_calendar.specs.declared.errors.AnchorError.{AnchorError}
use Rattle.ots_calendar.specs.declared.errors.AnchorError.TheVariants.{OutOfMemory}
use Rattle.ots_calendar.specs.Anchors.{FindsAnchor, FindsNone, anchor_answer, AnchorsIn, AsksAnchor, OnlyRefreshed}

module _ {D : Type 0} (bytes : D → Option (List ℕ)) (clock : D → ℕ) (since : D → ℕ → List ℕ → Type 0) (block : Contents) (height : ℕ) (old mid : JournalTold D)
    (r : Refreshed bytes old mid) (run : LeavesOnly clock since old.disk mid.disk (StandsForEither old.entries old.flight)) (records : List Record) (are : records ≡ records_of mid.entries) where
  pub anchors_none : (error : AnchorError) (result : Result Anchor AnchorError) → FindsNone records block error → result ≡ Err error → AnchorsIn bytes clock since block height old mid result
  anchors_none error result none is =
      inl (record {
        mid = mid;
        refreshed = r;
        refreshing = run;
        goes_on = inr (record { error = error; finds = subst (λ (l : List Record). FindsNone l block error) are none; same = refl; answer = is });
      })

  pub anchors_given : (new : JournalTold D) (a : Anchor) (result : Result Anchor AnchorError) (stored : Result (Unit {0}) AppendError) → FindsAnchor records block height a
      → Added clock since mid new (entry_of (AnchorRecord a) ∷ []) stored → result ≡ anchor_answer a stored → AnchorsIn bytes clock since block height old new result
  anchors_given new a result stored finds added is =
      inl (record {
        mid = mid;
        refreshed = r;
        refreshing = run;
        goes_on = inl (record { anchor = a; finds = subst (λ (l : List Record). FindsAnchor l block height a) are finds; stored = stored; stores = added; answer = is });
      })

-- ---- memory that runs out leaves what a refresh left, or all as it was

not_stored : (a : Anchor) (stored : Result (Unit {0}) AppendError) → anchor_answer a stored ≡ Err OutOfMemory → stored ≡ Err append.OutOfMemory
not_stored a (Ok x) is = absurd (cc)
not_stored a (Err append.DiskFault) is = absurd (cc)
not_stored a (Err (append.Full need limit)) is = absurd (cc)
not_stored a (Err append.OutOfMemory) is = refl

module _ {D : Type 0} (bytes : D → Option (List ℕ)) (clock : D → ℕ) (since : D → ℕ → List ℕ → Type 0) (block : Contents) (height : ℕ) (old new : JournalTold D) (result : Result Anchor AnchorError) (is : result ≡ Err OutOfMemory) where
  refreshed_to : (mid : JournalTold D) → Refreshed bytes old mid → new ≡ mid → OnlyRefreshed bytes old new
  refreshed_to mid r same = inr (subst (λ (j : JournalTold D). Refreshed bytes old j) (sym same) r)

  in_memory : AnchorsIn bytes clock since block height old new result → OnlyRefreshed bytes old new
  in_memory (inl on) = elim on.goes_on [
    | inl gives ↦
        let short : gives.stored ≡ Err append.OutOfMemory = not_stored gives.anchor gives.stored (sym gives.answer ∙ is) in
        refreshed_to on.mid on.refreshed (subst (λ (r : Result (Unit {0}) AppendError). Added clock since on.mid new (entry_of (AnchorRecord gives.anchor) ∷ []) r) short gives.stores).outcome
    | inr none ↦ refreshed_to on.mid on.refreshed none.same
  ]
  in_memory (inr stop) = absurd (let h = stop.1 in cc)

  pub anchor_memory : AsksAnchor bytes clock since block height old new result → OnlyRefreshed bytes old new
  anchor_memory (inl asks) = in_memory asks.1
  anchor_memory (inr nothing) = inl nothing.same

  pub anchor_untouched : old.is_sure ≡ true → OnlyRefreshed bytes old new → new.disk ≡ old.disk
  anchor_untouched sure (inl same) = ap (λ (j : JournalTold D). j.disk) same
  anchor_untouched sure (inr r) = ap (λ (j : JournalTold D). j.disk) (r.already sure)
