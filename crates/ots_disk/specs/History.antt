-- What a file is after calls of the disk, and what a crash may leave of it.
use Rattle.std.specs.Prelude.{◌≡◌, ℕ, ◌≤◌, Bool, true, false, List, [], ◌∷◌, length, take}
use Rattle.ots_disk.specs.Disk.{put, Torn}
use Rattle.ots_disk.specs.declared.disk_call.DiskCall.{DiskCall}
use Rattle.ots_disk.specs.declared.disk_call.DiskCall.TheVariants.{Length, Read, Write, Sync}
use Rattle.ots_disk.specs.declared.disk_call.MadeCall.{MadeCall}

pub record DiskState : Type 0 where
  -- what a read gives
  pub bytes : List ℕ
  -- what the last good sync left
  pub durable : List ℕ
  -- each write since that sync, its place and its bytes, the newest first
  pub pending : List (ℕ × List ℕ)

-- A disk that was just made.
abbrev pub start : List ℕ → DiskState
start bytes = record { bytes = bytes; durable = bytes; pending = [] }

-- A write that fails leaves what is read as it was, and its range open.
abbrev pub after_write : ℕ → List ℕ → Bool → DiskState → DiskState
after_write place piece true s = record s { pending = (place, piece) ∷ s.pending }
after_write place piece false s = record {
  bytes = put place piece s.bytes;
  durable = s.durable;
  pending = (place, piece) ∷ s.pending;
}

abbrev pub after_sync : Bool → DiskState → DiskState
after_sync true s = s
after_sync false s = record { bytes = s.bytes; durable = s.bytes; pending = [] }

abbrev pub after_of : DiskCall → Bool → DiskState → DiskState
after_of Length failed s = s
after_of Read failed s = s
after_of (Write place piece) failed s = after_write place piece failed s
after_of Sync failed s = after_sync failed s

abbrev pub after_calls : DiskState → List MadeCall → DiskState
after_calls s [] = s
after_calls s (made ∷ calls) = after_calls (after_of made.call made.failed s) calls

-- What pending writes may leave of durable bytes: each of them any bytes in its range.
abbrev pub Reaches : List ℕ → List (ℕ × List ℕ) → List ℕ → Type 0
Reaches durable [] c = c ≡ durable
Reaches durable (write ∷ earlier) c = (d : List ℕ) × Reaches durable earlier d × Torn write.0 (length write.1) d c

abbrev pub IsImage : DiskState → List ℕ → Type 0
IsImage s c = Reaches s.durable s.pending c

-- What a crash may have left since a moment: an image of the disk after some number of its calls. In the middle of a
-- call a crash leaves what it may leave before the call or after it.
abbrev pub ImagesSince : List ℕ → List MadeCall → ℕ → List ℕ → Type 0
ImagesSince first calls t c = (k : ℕ) × (t ≤ k) × (k ≤ length calls)
    × IsImage (after_calls (start first) (take k calls)) c
