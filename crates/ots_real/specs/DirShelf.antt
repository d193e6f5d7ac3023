-- What a shelf of files is seen as.
use Rattle.std.specs.Prelude.{ℕ, List, None}
use Rattle.ots_outside.specs.Shelf.{ShelfTold, ShelfFaults, closed}
use Rattle.ots_real.specs.FileCalls.{FileCall}
use Rattle.ots_real.specs.OpenFile.{use_of_file, calls_in}
use Rattle.ots_real.specs.SlotTable.{slot_at}
use Rattle.ots_real.specs.declared.open_file.OpenFile.{OpenFile}
use Rattle.ots_real.specs.declared.open_file.OpenFile.TheVariants.{Closed}
use Rattle.ots_real.specs.declared.dir_shelf.DirShelf.{DirShelf}

-- A shelf of files tells what its slots are in use for, and nothing of names.
abbrev pub files_told : {R File Dir : Type 0} → DirShelf R File Dir → ShelfTold
files_told shelf = record {
  names = None;
  opened = None;
  slots = slot_at closed use_of_file shelf.files.items;
  short = shelf.short;
}

-- How often its calls have failed.
abbrev pub file_faults : {R File Dir : Type 0} → DirShelf R File Dir → ShelfFaults
file_faults shelf = record { opening = shelf.open_faults; reading = shelf.read_faults; writing = shelf.write_faults }

-- What a slot holds of a file.
abbrev pub file_at : {R File Dir : Type 0} → DirShelf R File Dir → ℕ → OpenFile File
file_at shelf slot = slot_at Closed (λ file. file) shelf.files.items slot

-- The calls that were made of the file that a slot was created for, the newest first.
abbrev pub calls_at : {R File Dir : Type 0} → DirShelf R File Dir → ℕ → List FileCall
calls_at shelf slot = calls_in (file_at shelf slot)
