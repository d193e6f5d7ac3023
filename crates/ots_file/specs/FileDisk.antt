-- What contracts see of a disk over the calls of a file.
use Rattle.std.specs.Prelude.{◌≡◌, ℕ, Bool, true, false, List, length, Option, Result, is_ok, is_err, if◌then◌else◌}
use Rattle.ots_base.specs.Cause.{one_more}
use Rattle.ots_disk.specs.Disk.{Elapses}
use Rattle.ots_file.specs.Events.{FileEvent, failures, counted, has_failed_sync, is_ready}
use Rattle.ots_file.specs.FileCalls.{bytes_told, images_told, since_told, after_opening}
use Rattle.ots_file.specs.declared.file_calls.FileCalls as calls
use Rattle.ots_file.specs.declared.file_disk.FileDisk.{FileDisk}

module _ {F : Type 0} {g : calls.Ghosts F} where
  abbrev pub file_of : FileDisk F g → F
  file_of disk = disk.file

  abbrev pub disk_faults : FileDisk F g → ℕ
  disk_faults disk = disk.faults

  -- the calls of the file, the newest first
  abbrev pub history_of : FileDisk F g → List FileEvent
  history_of disk = g.history disk.file

  -- The file was opened, so that a call of the disk opens nothing.
  abbrev pub is_open : FileDisk F g → Bool
  is_open disk = is_ready (g.history disk.file)

  -- A sync failed, of the file or of its folder.
  abbrev pub is_broken : FileDisk F g → Bool
  is_broken disk = has_failed_sync (g.history disk.file)

  -- the calls before one of the disk that opened the file, and those of the opening
  abbrev pub opened_from : FileDisk F g → FileDisk F g → List FileEvent
  opened_from old new = after_opening g old.file new.file

  abbrev pub bytes_of : FileDisk F g → Option (List ℕ)
  bytes_of disk = bytes_told g disk.file

  abbrev pub images_of : FileDisk F g → List ℕ → Type 0
  images_of disk = images_told g disk.file

  abbrev pub since_of : FileDisk F g → ℕ → List ℕ → Type 0
  since_of disk = since_told g disk.file

  -- a moment is the number of calls that were made of the file
  abbrev pub clock_of : FileDisk F g → ℕ
  clock_of disk = length (g.history disk.file)

  abbrev pub TimePasses : FileDisk F g → FileDisk F g → Type 0
  TimePasses old new = Elapses (clock_of old) (clock_of new) (since_of old) (since_of new) (images_of new)

  -- What each call of the disk leaves, whatever it asks for.
  pub record Answers {T E : Type 0} (old new : FileDisk F g) (result : Result T E) : Type 0 where
    -- an error is one fault more
    pub faulty : new.faults ≡ (if is_err result then one_more old.faults else old.faults)
    -- it is an error exactly where a call of the file failed in it, and then only one did
    pub exactly : is_broken old ≡ false → failures (history_of new) ≡ counted (is_ok result) (failures (history_of old))
    -- after a failed sync it is an error, and no call is made of the file any more
    pub broken : is_broken old ≡ true → (is_ok result ≡ false) × (history_of new ≡ history_of old)
