-- What is told of a file by its calls.
use Rattle.std.specs.Prelude.{◌≡◌, ℕ, Bool, true, false, List, Option}
use Rattle.ots_file.specs.Events.{FileEvent, opening, failures, counted, has_failed_sync, is_ready}
use Rattle.ots_file.specs.Told.{told_bytes, told_images, told_since}
use Rattle.ots_file.specs.declared.file_calls.FileCalls.{Ghosts}

module _ {F : Type 0} (calls : Ghosts F) where
  -- what a read gives
  abbrev pub bytes_told : F → Option (List ℕ)
  bytes_told file = told_bytes (calls.first file) (calls.history file)

  -- what a crash may leave
  abbrev pub images_told : F → List ℕ → Type 0
  images_told file = told_images (calls.first file) (calls.history file)

  -- what a crash may have left since a moment
  abbrev pub since_told : F → ℕ → List ℕ → Type 0
  since_told file = told_since (calls.first file) (calls.history file)

  -- the calls before a run that began with the opening of the file, and those of the opening
  abbrev pub after_opening : F → F → List FileEvent
  after_opening old new = opening (calls.folder new) (calls.history old)

  -- What a run of calls leaves that may open the file: `ok` is whether all succeeded, and else one failed; a file of
  -- which a sync failed gets no call. The two flags are what the disk remembers of the file.
  pub record Leaves (old new : F) (ok is_open sync_failed : Bool) : Type 0 where
    pub open_known : is_open ≡ is_ready (calls.history new)
    pub sync_known : sync_failed ≡ has_failed_sync (calls.history new)
    pub counts : has_failed_sync (calls.history old) ≡ false
        → failures (calls.history new) ≡ counted ok (failures (calls.history old))
    pub broken : has_failed_sync (calls.history old) ≡ true → (ok ≡ false) × (calls.history new ≡ calls.history old)
    pub kept : calls.first new ≡ calls.first old
