-- The images that a disk in memory gives of a moment.
use Rattle.std.specs.Prelude.{◌-◌, ℕ, List, [], ◌∷◌, length, take, drop, replicate}
use Rattle.std.proofs.Common.{subst}
use Rattle.std.proofs.lemmas.List.{length-replicate}
use Rattle.ots_disk.specs.Disk.{put, Torn}
use Rattle.ots_disk.specs.History.{DiskState, start, after_calls, Reaches}
use Rattle.ots_disk.specs.MemoryDisk.{MemoryDiskTold}
use Rattle.ots_disk.specs.Laws.{torn_same, put_is_torn}
use Rattle.ots_disk.specs.declared.choice.Choice.{Choice}
use Rattle.ots_disk.specs.declared.choice.Choice.TheVariants.{Dropped, Kept, Fill}
use Rattle.ots_disk.specs.declared.disk_call.DiskCall.{DiskCall}
use Rattle.ots_disk.specs.declared.disk_call.DiskCall.TheVariants.{Length, Read, Write, Sync}
use Rattle.ots_disk.specs.declared.disk_call.MadeCall.{MadeCall}

-- A pending write is undone, done, or its whole range holds a byte.
abbrev pub chosen_write : Choice → ℕ → List ℕ → List ℕ → List ℕ
chosen_write Dropped place piece image = image
chosen_write Kept place piece image = put place piece image
chosen_write (Fill byte) place piece image = put place (replicate (length piece) byte) image

abbrev pub chosen : Choice → List ℕ → List (ℕ × List ℕ) → List ℕ
chosen choice durable [] = durable
chosen choice durable (write ∷ earlier) = chosen_write choice write.0 write.1 (chosen choice durable earlier)

-- In the middle of a write its range is pending too.
abbrev pub in_call : DiskCall → DiskState → DiskState
in_call Length s = s
in_call Read s = s
in_call (Write place piece) s = record s { pending = (place, piece) ∷ s.pending }
in_call Sync s = s

abbrev pub in_first : List MadeCall → DiskState → DiskState
in_first [] s = s
in_first (made ∷ calls) s = in_call made.call s

-- The state in the middle of a call by its number, of which the first is 1. After the last call it is the state now.
abbrev pub state_in : MemoryDiskTold → ℕ → DiskState
state_in disk moment = in_first (drop (moment - 1) disk.notes.calls)
    (after_calls (start disk.first) (take (moment - 1) disk.notes.calls))

pub chosen_write_torn : (choice : Choice) (place : ℕ) (piece image : List ℕ)
    → Torn place (length piece) image (chosen_write choice place piece image)
chosen_write_torn Dropped place piece image = torn_same place (length piece) image
chosen_write_torn Kept place piece image = put_is_torn place piece image
chosen_write_torn (Fill byte) place piece image =
    subst (λ (n : ℕ). Torn place n image (put place (replicate (length piece) byte) image))
    (length-replicate (length piece) byte) (put_is_torn place (replicate (length piece) byte) image)

-- what is chosen is one of the images
pub chosen_is_image : (choice : Choice) (durable : List ℕ) (pending : List (ℕ × List ℕ))
    → Reaches durable pending (chosen choice durable pending)
chosen_is_image choice durable [] = λ _. durable
chosen_is_image choice durable (write ∷ earlier) = (
  chosen choice durable earlier,
  chosen_is_image choice durable earlier,
  chosen_write_torn choice write.0 write.1
      (chosen choice durable earlier),
)
