-- The command `tip`.
use Rattle.std.specs.Prelude.{◌≡◌, ◌<◌, ◌≤◌, ℕ, List, [], ◌∷◌, ◌++◌}
use Rattle.ots_journal.specs.declared.entry.Entry.{Entry}
use Rattle.ots_journal.specs.Journal.{size_with}
use Rattle.ots_store.specs.declared.tip.Tip.{Tip}
use Rattle.ots_store.specs.Order.{HasSpan, records_of, tips_of}
use Rattle.ots_store.specs.Records.{TipRecord, entry_of}
use Rattle.ots_calendar.specs.Tips.{AllCovered, IsNextTip}
use Rattle.ots_calendar.specs.declared.errors.TipError.{TipError}
use Rattle.ots_calendar.specs.declared.errors.TipError.TheVariants as why
use Rattle.ots_calendar_text.specs.Lines.{tip_line}
use Rattle.ots_calendar_text.specs.declared.status.DaemonStatus.{DaemonStatus}
use Rattle.ots_calendar_text.specs.declared.status.DaemonStatus.TheVariants.{NothingNew, Full, DiskFault, OutOfMemory}
use Rattle.ots_calendar_endings.specs.RunEnd.{RunEnd, declined, done}
use Rattle.ots_journal.specs.declared.limits.TheConstants.{MAX_JOURNAL}
use Rattle.ots_calendar_endings.specs.Ran.{Meaning}
use Rattle.ots_calendar_endings.specs.Told.{Told}
use Rattle.ots_calendar_endings.specs.With.{WithBook}

abbrev pub tip_status : TipError → DaemonStatus
tip_status why.NothingNew = NothingNew
tip_status why.DiskFault = DiskFault
tip_status (why.Full need limit) = Full need limit
tip_status why.OutOfMemory = OutOfMemory

-- the tip's record
abbrev pub tip_entries : Tip → List Entry
tip_entries tip = entry_of (TipRecord tip) ∷ []

-- The tip is stored already.
abbrev pub IsStored : List Entry → Tip → Type 0
IsStored entries tip = HasSpan tip.first tip.count (tips_of (records_of entries))

-- Over a journal with this limit, whose closed gate is at this place.
pub data TipAnswers (limit gate : ℕ) (entries : List Entry) (e : RunEnd) : Type 0 where
  nothing_new : AllCovered (records_of entries) → e ≡ declined entries NothingNew → TipAnswers limit gate entries e
  stored : (tip : Tip) → IsNextTip (records_of entries) tip → IsStored entries tip
      → e ≡ done entries (tip_line tip.first tip.count tip.root) → TipAnswers limit gate entries e
  added : (tip : Tip) → IsNextTip (records_of entries) tip → ¬ IsStored entries tip
      → size_with gate (tip_entries tip) ≤ limit
      → e ≡ done (entries ++ tip_entries tip) (tip_line tip.first tip.count tip.root) → TipAnswers limit gate entries e
  full : (tip : Tip) → IsNextTip (records_of entries) tip → ¬ IsStored entries tip
      → limit < size_with gate (tip_entries tip)
      → e ≡ declined entries (Full (size_with gate (tip_entries tip)) limit) → TipAnswers limit gate entries e

-- What it may add: the next tip, where none over the same commitments is stored.
pub record AddsTip (entries added : List Entry) : Type 0 where
  pub tip : Tip
  pub next : IsNextTip (records_of entries) tip
  pub fresh : ¬ IsStored entries tip
  pub is : added ≡ tip_entries tip

-- It names no file.
abbrev pub tip_meaning : Told → Told → Meaning
tip_meaning old new = record {
  reads = [];
  answers = WithBook old.bytes (TipAnswers MAX_JOURNAL);
  adds = AddsTip;
  ready = Unit {0};
  draws = ⊥;
  serves = ⊥;
}
