-- What asking a book for a tip does.
use Rattle.std.specs.Prelude.{◌≡◌, ◌⊎◌, ℕ, List, [], ◌∷◌, length, Option, Result, Ok, Err}
use Rattle.ots_journal.specs.declared.errors.AppendError.{AppendError}
use Rattle.ots_journal.specs.declared.errors.AppendError.TheVariants as append
use Rattle.ots_journal.specs.Journal.{JournalTold}
use Rattle.ots_store.specs.declared.tip.Tip.{Tip}
use Rattle.ots_store.specs.Order.{commits_of, tips_of, covered_of, records_of, HasSpan, FollowsTip}
use Rattle.ots_store.specs.Records.{Record, TipRecord, entry_of}
use Rattle.ots_store.specs.Store.{Added, MakesRoom}
use Rattle.ots_calendar.specs.declared.errors.TipError.{TipError}
use Rattle.ots_calendar.specs.declared.errors.TipError.TheVariants.{NothingNew, DiskFault, Full, OutOfMemory}
use Rattle.ots_calendar.specs.Book.{GoesOnInRoom, StopsInRoom}
use Rattle.ots_calendar.specs.Values.{IsTrueTip}

abbrev pub AllCovered : List Record → Type 0
AllCovered records = covered_of records ≡ length (commits_of records)

-- It begins with the first commitment that is not covered, runs to the last one, and has the root over them.
pub record IsNextTip (records : List Record) (tip : Tip) : Type 0 where
  pub follows : FollowsTip records tip
  pub is_true : IsTrueTip (commits_of records) tip

abbrev pub tip_error : AppendError → TipError
tip_error append.DiskFault = DiskFault
tip_error (append.Full need limit) = Full need limit
tip_error append.OutOfMemory = OutOfMemory

-- the answer, by how the tip was added
abbrev pub tip_answer : Tip → Result (Unit {0}) AppendError → Result Tip TipError
tip_answer tip (Ok _) = Ok tip
tip_answer tip (Err why) = Err (tip_error why)

-- A tip is stored where none over the same commitments is.
abbrev pub StoresTip : {D : Type 0} → (D → ℕ) → (D → ℕ → List ℕ → Type 0) → Tip → JournalTold D → JournalTold D
    → Result (Unit {0}) AppendError → Type 0
StoresTip clock images_since tip mid new stored =
    (HasSpan tip.first tip.count (tips_of (records_of mid.entries)) × (new ≡ mid) × (stored ≡ Ok tt))
    ⊎ ((HasSpan tip.first tip.count (tips_of (records_of mid.entries)) → ⊥)
    × Added clock images_since mid new (entry_of (TipRecord tip) ∷ []) stored)

-- The next tip is answered, once it is stored.
pub record GivesTip {D : Type 0} (clock : D → ℕ) (images_since : D → ℕ → List ℕ → Type 0) (new : JournalTold D)
    (result : Result Tip TipError) (mid : JournalTold D) : Type 0 where
  pub tip : Tip
  pub next : IsNextTip (records_of mid.entries) tip
  pub stored : Result (Unit {0}) AppendError
  pub stores : StoresTip clock images_since tip mid new stored
  -- there was room for it
  pub has_room : stored ≡ Err append.OutOfMemory → ⊥
  pub answer : result ≡ tip_answer tip stored

-- After the refresh: there is nothing new, or the next tip is given.
abbrev pub TipAfter : {D : Type 0} → (D → ℕ) → (D → ℕ → List ℕ → Type 0) → JournalTold D → Result Tip TipError
    → JournalTold D → Type 0
TipAfter clock images_since new result mid =
    (AllCovered (records_of mid.entries) × (new ≡ mid) × (result ≡ Err NothingNew))
    ⊎ GivesTip clock images_since new result mid

-- Memory runs out only before the disk is called.
abbrev pub AsksTip : {D : Type 0} → (D → Option (List ℕ)) → (D → ℕ) → (D → ℕ → List ℕ → Type 0) → JournalTold D
    → JournalTold D → Result Tip TipError → Type 0
AsksTip bytes clock images_since old new result =
    GoesOnInRoom bytes clock images_since old (TipAfter clock images_since new result)
    ⊎ (StopsInRoom bytes clock images_since old new × (result ≡ Err DiskFault))
    ⊎ (MakesRoom old new × (result ≡ Err OutOfMemory))

-- What finding the next tip leaves of the journal, by its answer: there is room, and it is refreshed.
abbrev pub FindsTip : {D : Type 0} → (D → Option (List ℕ)) → (D → ℕ) → (D → ℕ → List ℕ → Type 0) → JournalTold D
    → JournalTold D → Result (Option Tip) TipError → Type 0
FindsTip bytes clock images_since old new (Ok found) = GoesOnInRoom bytes clock images_since old (λ mid. new ≡ mid)
FindsTip bytes clock images_since old new (Err DiskFault) = StopsInRoom bytes clock images_since old new
FindsTip bytes clock images_since old new (Err OutOfMemory) = MakesRoom old new
FindsTip bytes clock images_since old new (Err NothingNew) = ⊥
FindsTip bytes clock images_since old new (Err (Full need limit)) = ⊥
