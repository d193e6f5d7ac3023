-- What contracts see of a disk in memory, and what each call leaves of it.
use Rattle.std.specs.Prelude.{ℕ, ◌+◌, ◌||◌, Bool, true, false, List, length, nat_lt, if◌then◌else◌}
use Rattle.ots_disk.specs.History.{DiskState, start, after_calls}
use Rattle.ots_disk.specs.Notes.{NotesTold, is_full, is_next_listed, refused, after_note}
use Rattle.ots_disk.specs.declared.disk_call.DiskCall.{DiskCall}
use Rattle.ots_disk.specs.declared.disk_call.DiskCall.TheVariants.{Length, Read, Write, Sync}

pub record MemoryDiskTold : Type 0 where
  -- the bytes that it was made with
  pub first : List ℕ
  pub notes : NotesTold
  -- how many bytes one write can have
  pub write_room : ℕ
  -- how many bytes the file can reach to by writes
  pub file_room : ℕ

abbrev pub state_of : MemoryDiskTold → DiskState
state_of disk = after_calls (start disk.first) disk.notes.calls

-- A write goes past what was reserved.
abbrev pub is_past : MemoryDiskTold → DiskCall → Bool
is_past disk Length = false
is_past disk Read = false
is_past disk (Write place piece) = nat_lt disk.write_room (length piece) || nat_lt disk.file_room (place + length piece)
is_past disk Sync = false

-- A call fails exactly where it goes past what was reserved or its number is listed.
abbrev pub fails : MemoryDiskTold → DiskCall → Bool
fails disk call = is_past disk call || (is_full disk.notes || is_next_listed disk.notes)

-- What a call leaves: it is noted, unless it goes past what was reserved, and a failure is counted.
abbrev pub after : MemoryDiskTold → DiskCall → MemoryDiskTold
after disk call = record disk { notes = if is_past disk call then refused disk.notes else after_note disk.notes call }

abbrev pub is_write : DiskCall → Bool
is_write Length = false
is_write Read = false
is_write (Write place piece) = true
is_write Sync = false
