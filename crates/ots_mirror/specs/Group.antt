-- What a round does to the journal: a group of entries is added to it, or why not.
use Rattle.std.specs.Prelude.{◌≡◌, ◌<◌, ◌≤◌, ℕ, ◌+◌, true, List, [], ◌∷◌, ◌++◌, length}
use Rattle.ots_disk.specs.Disk.{LeavesOnly}
use Rattle.ots_journal.specs.declared.entry.Entry.{Entry}
use Rattle.ots_journal.specs.declared.errors.AppendError.{AppendError}
use Rattle.ots_journal.specs.declared.errors.AppendError.TheVariants as append
use Rattle.ots_journal.specs.Image.{Stands, entries_bytes}
use Rattle.ots_journal.specs.Journal.{JournalTold, StandsForEither, size_with}
use Rattle.ots_mirror_words.specs.declared.status.MirrorStatus.{MirrorStatus}
use Rattle.ots_mirror_words.specs.declared.status.MirrorStatus.TheVariants.{Full, DiskFault, OutOfMemory}

abbrev pub append_status : AppendError → MirrorStatus
append_status append.DiskFault = DiskFault
append_status (append.Full need limit) = Full need limit
append_status append.OutOfMemory = OutOfMemory

-- The place of the closed gate after a group, where it was at this place: a group has a gate, a head of six bytes, and
-- its entries. No group leaves the gate.
abbrev pub gate_with : ℕ → List Entry → ℕ
gate_with gate [] = gate
gate_with gate (e ∷ entries) = gate + 7 + length (entries_bytes (e ∷ entries))

-- The file with the group is within the limit.
abbrev pub FitsLimit : ℕ → ℕ → List Entry → Type 0
FitsLimit limit gate [] = Unit {0}
FitsLimit limit gate (e ∷ entries) = size_with gate (e ∷ entries) ≤ limit

-- A group was added to a sure journal, all of it or, where it is empty, nothing. At every moment each image stands for
-- the entries before, or for these and all of the group.
pub record Adds {D : Type 0} (clock : D → ℕ) (images : D → List ℕ → Type 0) (images_since : D → ℕ → List ℕ → Type 0)
    (old new : JournalTold D) (group : List Entry) : Type 0 where
  pub entries : new.entries ≡ old.entries ++ group
  pub gate : new.gate ≡ gate_with old.gate group
  pub within : FitsLimit old.limit old.gate group
  pub limit : new.limit ≡ old.limit
  pub sure : new.is_sure ≡ true
  pub kept : (c : List ℕ) → images new.disk c → Stands c new.entries
  pub moments : LeavesOnly clock images_since old.disk new.disk (StandsForEither old.entries group)

-- The same of some group that was taken.
abbrev pub AddsGroup : {D : Type 0} → (D → ℕ) → (D → List ℕ → Type 0) → (D → ℕ → List ℕ → Type 0)
    → (List Entry → Type 0) → JournalTold D → JournalTold D → Type 0
AddsGroup clock images images_since takes old new = (group : List Entry) × takes group
    × Adds clock images images_since old new group

-- Why a run stops in a round: the group that it took does not fit the limit; or the disk failed while it was added; or
-- memory ran out, after so much was asked.
pub data StopsRound {D : Type 0} (clock : D → ℕ) (images_since : D → ℕ → List ℕ → Type 0) (disk : Type 0)
    (takes : List Entry → Type 0) (asks : Type 0) (old new : JournalTold D) (s : MirrorStatus) : Type 0 where
  full : (group : List Entry) → takes group → old.limit < size_with old.gate group
      → s ≡ Full (size_with old.gate group) old.limit → new ≡ old
      → StopsRound clock images_since disk takes asks old new s
  disk_failed : (group : List Entry) → takes group → disk → s ≡ DiskFault
      → LeavesOnly clock images_since old.disk new.disk (StandsForEither old.entries group)
      → StopsRound clock images_since disk takes asks old new s
  no_memory : asks → s ≡ OutOfMemory → new ≡ old → StopsRound clock images_since disk takes asks old new s

-- The same where nothing is said of what was asked.
abbrev pub Stops : {D : Type 0} → (D → ℕ) → (D → ℕ → List ℕ → Type 0) → Type 0 → (List Entry → Type 0)
    → JournalTold D → JournalTold D → MirrorStatus → Type 0
Stops clock images_since disk takes = StopsRound clock images_since disk takes (Unit {0})
