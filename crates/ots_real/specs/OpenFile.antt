-- What a slot holds of a file.
use Rattle.std.specs.Prelude.{ℕ, List, [], Option, None}
use Rattle.ots_outside.specs.Shelf.{SlotUse, closed, reading, writing}
use Rattle.ots_real.specs.FileCalls.{FileCall}
use Rattle.ots_real.specs.NewFile.{calls_of, file_in, new_faults}
use Rattle.ots_real.specs.StdStreams.{reader_of, read_faults}
use Rattle.ots_real.specs.declared.open_file.OpenFile.{OpenFile}
use Rattle.ots_real.specs.declared.open_file.OpenFile.TheVariants.{Closed, Reading, Writing}

-- What it is in use for. A file tells nothing, not even its name.
abbrev pub use_of_file : {F : Type 0} → OpenFile F → SlotUse
use_of_file Closed = closed
use_of_file (Reading source) = reading None
use_of_file (Writing made) = writing []

-- The bytes that the file has left to read, where `remaining` says what a file has.
abbrev pub left_in : {F : Type 0} → (F → Option (List ℕ)) → OpenFile F → Option (List ℕ)
left_in remaining Closed = None
left_in remaining (Reading source) = remaining (reader_of source)
left_in remaining (Writing made) = None

-- The bytes that the file holds, where `contents` says what a file holds.
abbrev pub taken_in : {F : Type 0} → (F → Option (List ℕ)) → OpenFile F → Option (List ℕ)
taken_in contents Closed = None
taken_in contents (Reading source) = None
taken_in contents (Writing made) = contents (file_in made)

-- How often a call on the file has failed.
abbrev pub faults_in : {F : Type 0} → OpenFile F → ℕ
faults_in Closed = 0
faults_in (Reading source) = read_faults source
faults_in (Writing made) = new_faults made

-- The calls that were made of a file that was created, the newest first.
abbrev pub calls_in : {F : Type 0} → OpenFile F → List FileCall
calls_in Closed = []
calls_in (Reading source) = []
calls_in (Writing made) = calls_of made
