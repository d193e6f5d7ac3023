-- What asking a book for a tip does, by how it ends.
use Rattle.std.proofs.Common.{◌≡◌, inl, inr, ℕ, List, refl, sym, ap, subst, ◌∙◌}
use Rattle.std.specs.Prelude.{Option, Some, None, MatchOption, Result, Ok, Err}
use Rattle.ots_disk.specs.Disk.{LeavesOnly}
use Rattle.ots_journal.specs.declared.errors.AppendError.{AppendError}
use Rattle.ots_journal.specs.declared.errors.AppendError.TheVariants as append
use Rattle.ots_journal.specs.Journal.{JournalTold, StandsForEither, Refreshed}
use Rattle.ots_store.specs.declared.tip.Tip.{Tip}
use Rattle.ots_store.specs.Order.{records_of}
use Rattle.ots_store.specs.Records.{Record}
use Rattle.ots_store.specs.Store.{StoreTold, StoreStands, MakesRoom, with_room}
use Rattle.ots_calendar.specs.declared.errors.TipError.{TipError}
use Rattle.ots_calendar.specs.declared.errors.TipError.TheVariants.{NothingNew, DiskFault, Full, OutOfMemory}
use Rattle.ots_calendar.specs.Book.{Grows, Keeps, StandsForBook, GoesOnInRoom}
use Rattle.ots_calendar.specs.Tips.{AllCovered, IsNextTip, tip_answer, StoresTip, FindsTip, AsksTip}
use Rattle.ots_calendar.proofs.Growing.{room_grows, on_grows, stop_grows}
use Rattle.ots_calendar.proofs.Keeping.{room_keeps, room_readable, on_keeps, off_keeps, on_readable, off_readable}

-- ---- what a tip is asked of

module _ {D : Type 0} (bytes : D → Option (List ℕ)) (clock : D → ℕ) (since : D → ℕ → List ℕ → Type 0) (old : JournalTold D) where
  -- the tip is not found
  pub asks_refused : (mid : JournalTold D) (found : Result (Option Tip) TipError) (why : TipError) (result : Result Tip TipError) → found ≡ Err why → result ≡ Err why → FindsTip bytes clock since old mid found
      → AsksTip bytes clock since old mid result
  asks_refused mid found DiskFault result was is finds = inr (inl (subst (FindsTip bytes clock since old mid) was finds, is))
  asks_refused mid found OutOfMemory result was is finds = inr (inr (subst (FindsTip bytes clock since old mid) was finds, is))
  asks_refused mid found NothingNew result was is finds = absurd (subst (FindsTip bytes clock since old mid) was finds)
  asks_refused mid found (Full need limit) result was is finds = absurd (subst (FindsTip bytes clock since old mid) was finds)

  module _ (mid : JournalTold D) (found : Result (Option Tip) TipError) (o : Option Tip) (was : found ≡ Ok o) (finds : FindsTip bytes clock since old mid found) (records : List Record) (are : records ≡ records_of mid.entries)
      (next : MatchOption o (AllCovered records) (IsNextTip records)) where
    goes_on : GoesOnInRoom bytes clock since old (λ (j : JournalTold D). mid ≡ j)
    goes_on = subst (FindsTip bytes clock since old mid) was finds

    pub asks_nothing : o ≡ None → AsksTip bytes clock since old mid (Err NothingNew)
    asks_nothing none =
        let on = goes_on in
        let g = on.goes_on in
        let all : AllCovered (records_of mid.entries) = subst AllCovered are (subst (λ (x : Option Tip). MatchOption x (AllCovered records) (IsNextTip records)) none next) in
        inl (record {
          spare_entries = on.spare_entries;
          spare_bytes = on.spare_bytes;
          goes_on = record {
            mid = g.mid;
            refreshed = g.refreshed;
            refreshing = g.refreshing;
            goes_on = inl (subst (λ (j : JournalTold D). AllCovered (records_of j.entries)) g.goes_on all, g.goes_on, refl);
          };
        })

    pub asks_given : (new : JournalTold D) (tip : Tip) (result : Result Tip TipError) → o ≡ Some tip → (stored : Result (Unit {0}) AppendError) → StoresTip clock since tip mid new stored
        → (stored ≡ Err append.OutOfMemory → ⊥) → result ≡ tip_answer tip stored → AsksTip bytes clock since old new result
    asks_given new tip result some stored stores has_room is =
        let on = goes_on in
        let g = on.goes_on in
        let one : IsNextTip (records_of mid.entries) tip = subst (λ (l : List Record). IsNextTip l tip) are (subst (λ (x : Option Tip). MatchOption x (AllCovered records) (IsNextTip records)) some next) in
        inl (record {
          spare_entries = on.spare_entries;
          spare_bytes = on.spare_bytes;
          goes_on = record {
            mid = g.mid;
            refreshed = g.refreshed;
            refreshing = g.refreshing;
            goes_on = inr (record {
              tip = tip;
              next = subst (λ (j : JournalTold D). IsNextTip (records_of j.entries) tip) g.goes_on one;
              stored = stored;
              stores = subst (λ (j : JournalTold D). StoresTip clock since tip j new stored) g.goes_on stores;
              has_room = has_room;
              answer = is;
            });
          };
        })

-- ---- memory that runs out does so before the disk is called

no_room : (tip : Tip) (stored : Result (Unit {0}) AppendError) → tip_answer tip stored ≡ Err OutOfMemory → stored ≡ Err append.OutOfMemory
no_room tip (Ok x) is = absurd (cc)
no_room tip (Err append.DiskFault) is = absurd (cc)
no_room tip (Err (append.Full need limit)) is = absurd (cc)
no_room tip (Err append.OutOfMemory) is = refl

pub tip_untouched : {D : Type 0} (bytes : D → Option (List ℕ)) (clock : D → ℕ) (since : D → ℕ → List ℕ → Type 0) (old new : JournalTold D) (result : Result Tip TipError)
    → AsksTip bytes clock since old new result → result ≡ Err OutOfMemory → new.disk ≡ old.disk
tip_untouched bytes clock since old new result (inl on) is = elim (on.goes_on).goes_on [
  | inl nothing ↦ absurd (let h = nothing.2 in cc)
  | inr gives ↦ absurd (gives.has_room (no_room gives.tip gives.stored (sym gives.answer ∙ is)))
]
tip_untouched bytes clock since old new result (inr (inl stop)) is = absurd (let h = stop.1 in cc)
tip_untouched bytes clock since old new result (inr (inr short)) is = ap (λ (j : JournalTold _). j.disk) (short.0).same

-- ---- what finding a tip leaves

module _ {D : Type 0} (bytes : D → Option (List ℕ)) (clock : D → ℕ) (since : D → ℕ → List ℕ → Type 0) where
  module _ (old new : JournalTold D) where
    pub finds_grows : (result : Result (Option Tip) TipError) → FindsTip bytes clock since old new result → Grows old new
    finds_grows (Ok o) on = on_grows bytes clock since old new on.spare_entries on.spare_bytes (subst (λ (j : JournalTold D). Refreshed bytes (with_room old on.spare_entries on.spare_bytes) j) (sym (on.goes_on).goes_on) (on.goes_on).refreshed)
    finds_grows (Err DiskFault) stop = stop_grows bytes clock since old new stop
    finds_grows (Err OutOfMemory) room = room_grows old new room
    finds_grows (Err NothingNew) never = absurd never
    finds_grows (Err (Full need limit)) never = absurd never

    pub finds_keeps : Keeps old → (result : Result (Option Tip) TipError) → FindsTip bytes clock since old new result → Keeps new
    finds_keeps k (Ok o) on = on_keeps bytes old new on.spare_entries on.spare_bytes k (subst (λ (j : JournalTold D). Refreshed bytes (with_room old on.spare_entries on.spare_bytes) j) (sym (on.goes_on).goes_on) (on.goes_on).refreshed)
    finds_keeps k (Err DiskFault) stop = off_keeps bytes old new stop.spare_entries stop.spare_bytes k (stop.stops).unrefreshed
    finds_keeps k (Err OutOfMemory) room = room_keeps old new k room
    finds_keeps k (Err NothingNew) never = absurd never
    finds_keeps k (Err (Full need limit)) never = absurd never

    -- by the calls that it makes
    module _ (roomy : JournalTold D) (room : MakesRoom old roomy) where
      pub finds_next : (o : Option Tip) → Refreshed bytes roomy new → LeavesOnly clock since roomy.disk new.disk (StandsForEither roomy.entries roomy.flight) → FindsTip bytes clock since old new (Ok o)
      finds_next o refreshed run = record {
        spare_entries = roomy.spare_entries;
        spare_bytes = roomy.spare_bytes;
        goes_on = record {
          mid = new;
          refreshed = subst (λ (j : JournalTold D). Refreshed bytes j new) room.same refreshed;
          refreshing = subst (λ (j : JournalTold D). LeavesOnly clock since j.disk new.disk (StandsForEither j.entries j.flight)) room.same run;
          goes_on = refl;
        };
      }

  pub finds_readable : (images : D → List ℕ → Type 0) (only_now : (d : D) (c : List ℕ) → since d (clock d) c → images d c) (s : StoreTold D) (new : JournalTold D) → Keeps s.journal → StoreStands bytes images s
      → (result : Result (Option Tip) TipError) → FindsTip bytes clock since s.journal new result → LeavesOnly clock since s.journal.disk new.disk StandsForBook
  finds_readable images only_now s new k stands (Ok o) on =
      let g = on.goes_on in
      subst (λ (j : JournalTold D). LeavesOnly clock since s.journal.disk j.disk StandsForBook) (sym g.goes_on)
      (on_readable bytes images clock since s g.mid k stands on.spare_entries on.spare_bytes g.refreshing g.refreshed)
  finds_readable images only_now s new k stands (Err DiskFault) stop =
      off_readable bytes images clock since s new k stands stop.spare_entries stop.spare_bytes (stop.stops).refreshing (stop.stops).unrefreshed
  finds_readable images only_now s new k stands (Err OutOfMemory) room = room_readable bytes images s k stands clock since only_now new room
  finds_readable images only_now s new k stands (Err NothingNew) never = absurd never
  finds_readable images only_now s new k stands (Err (Full need limit)) never = absurd never
