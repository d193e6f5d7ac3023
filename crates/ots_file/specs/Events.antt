-- The calls that are made of a file with their answers, and what an honest file answers.
use Rattle.std.specs.Prelude.{◌≡◌, ℕ, ◌+◌, ◌≤◌, Bool, true, false, List, [], ◌∷◌, length, take, drop}
use Rattle.ots_disk.specs.Disk.{put}
use Rattle.ots_disk.specs.History.{DiskState, start}

pub data FileEvent : Type 0 where
  -- the folder in which the open file stands, empty where it failed, and whether it succeeded
  opened : List ℕ → Bool → FileEvent
  -- the folder, and whether it succeeded
  folder_synced : List ℕ → Bool → FileEvent
  pages_dropped : Bool → FileEvent
  -- whether it succeeded, and the length
  measured : Bool → ℕ → FileEvent
  -- the place, how many bytes were asked for, whether it succeeded, and the bytes that came
  got : ℕ → ℕ → Bool → List ℕ → FileEvent
  -- the place, the bytes that were given, whether it succeeded, and how many of them were taken
  wrote : ℕ → List ℕ → Bool → ℕ → FileEvent
  synced : Bool → FileEvent

-- A write that fails leaves what is read, and its range open.
abbrev pub after_event : FileEvent → DiskState → DiskState
after_event (opened folder ok) s = s
after_event (folder_synced folder ok) s = s
after_event (pages_dropped ok) s = s
after_event (measured ok n) s = s
after_event (got place asked ok bytes) s = s
after_event (wrote place piece true n) s =
    record { bytes = put place (take n piece) s.bytes; durable = s.durable; pending = (place, piece) ∷ s.pending }
after_event (wrote place piece false n) s =
    record { bytes = s.bytes; durable = s.durable; pending = (place, piece) ∷ s.pending }
after_event (synced true) s = record { bytes = s.bytes; durable = s.bytes; pending = [] }
after_event (synced false) s = s

-- A file that held these bytes, all of them durable, after these calls, of which the newest comes first.
abbrev pub replay : List ℕ → List FileEvent → DiskState
replay first [] = start first
replay first (e ∷ earlier) = after_event e (replay first earlier)

-- An honest file in this state may answer so. A call may always fail, and a read or a write may be short.
abbrev pub HonestEvent : FileEvent → DiskState → Type 0
HonestEvent (opened folder ok) s = Unit {0}
HonestEvent (folder_synced folder ok) s = Unit {0}
HonestEvent (pages_dropped ok) s = Unit {0}
HonestEvent (measured true n) s = n ≡ length s.bytes
HonestEvent (measured false n) s = Unit {0}
HonestEvent (got place asked true bytes) s =
    (bytes ≡ take (length bytes) (drop place s.bytes)) × (length bytes ≡ 0 → length s.bytes ≤ place)
HonestEvent (got place asked false bytes) s = Unit {0}
HonestEvent (wrote place piece ok n) s = Unit {0}
HonestEvent (synced ok) s = Unit {0}

abbrev pub IsHonest : List ℕ → List FileEvent → Type 0
IsHonest first [] = Unit {0}
IsHonest first (e ∷ earlier) = IsHonest first earlier × HonestEvent e (replay first earlier)

-- One more where a call failed.
abbrev pub counted : Bool → ℕ → ℕ
counted true n = n
counted false n = n + 1

abbrev pub counted_by : FileEvent → ℕ → ℕ
counted_by (opened folder ok) n = counted ok n
counted_by (folder_synced folder ok) n = counted ok n
counted_by (pages_dropped ok) n = counted ok n
counted_by (measured ok m) n = counted ok n
counted_by (got place asked ok bytes) n = counted ok n
counted_by (wrote place piece ok m) n = counted ok n
counted_by (synced ok) n = counted ok n

-- How many calls of the file failed.
abbrev pub failures : List FileEvent → ℕ
failures [] = 0
failures (e ∷ earlier) = counted_by e (failures earlier)

abbrev pub failed_sync_by : FileEvent → Bool → Bool
failed_sync_by (opened folder ok) failed = failed
failed_sync_by (folder_synced folder true) failed = failed
failed_sync_by (folder_synced folder false) failed = true
failed_sync_by (pages_dropped ok) failed = failed
failed_sync_by (measured ok n) failed = failed
failed_sync_by (got place asked ok bytes) failed = failed
failed_sync_by (wrote place piece ok n) failed = failed
failed_sync_by (synced true) failed = failed
failed_sync_by (synced false) failed = true

-- A sync failed, of the file or of its folder.
abbrev pub has_failed_sync : List FileEvent → Bool
has_failed_sync [] = false
has_failed_sync (e ∷ earlier) = failed_sync_by e (has_failed_sync earlier)

abbrev pub ready_by : FileEvent → Bool → Bool
ready_by (opened folder ok) ready = ready
ready_by (folder_synced folder true) ready = true
ready_by (folder_synced folder false) ready = ready
ready_by (pages_dropped ok) ready = ready
ready_by (measured ok n) ready = ready
ready_by (got place asked ok bytes) ready = ready
ready_by (wrote place piece ok n) ready = true
ready_by (synced ok) ready = ready

-- The file was opened, with its folder synced as the last step (or was written, which is done only then).
abbrev pub is_ready : List FileEvent → Bool
is_ready [] = false
is_ready (e ∷ earlier) = ready_by e (is_ready earlier)

-- The calls that open a file, all of which succeeded: the folder that was synced is the one in which it stands.
abbrev pub opening : List ℕ → List FileEvent → List FileEvent
opening folder earlier =
    folder_synced folder true ∷ pages_dropped true ∷ synced true ∷ opened folder true ∷ earlier
