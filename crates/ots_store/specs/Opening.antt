-- What is known while entries are taken as records, one after another.
use Rattle.std.specs.Prelude.{ℕ, List, [], ◌∷◌, ◌++◌}
use Rattle.ots_journal.specs.declared.entry.Entry.{Entry}
use Rattle.ots_store.specs.declared.errors.StoreError.{StoreError}
use Rattle.ots_store.specs.declared.errors.StoreError.TheVariants.{BadRecord, OutOfMemory}
use Rattle.ots_store.specs.declared.progress.Progress.{Progress}
use Rattle.ots_store.specs.declared.tip.Tip.{Tip}
use Rattle.ots_store.specs.Held.{HeldTold, Holds}
use Rattle.ots_store.specs.Order.{Follows, InOrder, AreRecords, records_of}
use Rattle.ots_store.specs.Progress.{Passed, IsProgress}
use Rattle.ots_store.specs.Records.{Record, record_of, IsRecord}

-- what an answer says of a bad entry
abbrev pub IfBad : StoreError → (ℕ → Type 0) → Type 0
IfBad (BadRecord i) P = P i
IfBad OutOfMemory P = Unit {0}

-- These records are held so far.
pub record HeldTo (records : List Record) (held : HeldTold) (p : Progress) : Type 0 where
  pub order : InOrder [] records
  pub holds : Holds records [] held
  pub progress : IsProgress records held.tips.kept [] p
  pub passed : Passed [] p

-- An entry more is held.
pub record HeldNext (before : List Record) (entry : Entry) (held : HeldTold) (p : Progress) : Type 0 where
  pub is : IsRecord entry
  pub follows : Follows before (record_of entry)
  pub now : HeldTo (before ++ record_of entry ∷ []) held p

-- Entries follow so far, of which the tips lie in a list and among these entries.
pub record FollowTo (before : List Record) (entries : List Entry) (tips : List Tip) (p : Progress) : Type 0 where
  pub are : AreRecords before entries
  pub progress : IsProgress (before ++ records_of entries) tips entries p
