-- The drafts are written.
use Rattle.std.specs.Prelude.{◌≡◌, ℕ, Bool, true, false, List, ◌++◌, codes, length, map, Some, Ok, Err}
use Rattle.std.specs.List.{range_with_len, slice_get}
use Rattle.ots_archive_draft.specs.declared.writing.Batch.{Batch as ReadBatch}
use Rattle.ots_archive_steps.specs.Ends.{IfRoom}
use Rattle.ots_archive_steps.specs.Making.{MakesNew}
use Rattle.ots_archive_steps.specs.Printing.{Tells}
use Rattle.ots_archive_text.specs.Lines.{wrote_text}
use Rattle.ots_archive_text.specs.Refusal.{refusal_text}
use Rattle.ots_archive_text.specs.declared.status.ArchiveStatus.{ArchiveStatus}
use Rattle.ots_archive_text.specs.declared.status.ArchiveStatus.TheVariants.{Exists}
use Rattle.ots_archive_world.specs.Steps.{Each, Step, Then}
use Rattle.ots_arguments.specs.Values.{texts}
use Rattle.ots_calendar_url.specs.CalendarUrl.{text_of}
use Rattle.ots_detached.specs.File.{file_of}
use Rattle.ots_draft.specs.Draft.{IsDraftOf}
use Rattle.ots_stamp.specs.Stamped.{leaves}
use Rattle.ots_stamp.specs.declared.target.Target.{Target}
use Rattle.ots_tree.specs.declared.detached.Detached.{Detached}

-- Files with the calendars that their drafts wait to be sent to: the URLs, the names, and the digests, each with a nonce.
pub record Batch : Type 0 where
  pub addresses : List (List ℕ)
  pub names : List (List ℕ)
  pub targets : List Target

-- the name of the draft of a file
abbrev pub draft_name : List ℕ → List ℕ
draft_name name = name ++ codes ".draft"

-- the line that tells whether a file was made
abbrev pub made_line : Bool → List ℕ → List ℕ
made_line true name = wrote_text name
made_line false name = refusal_text name Exists

abbrev pub TellsMade : List ℕ → Bool → Step Bool ArchiveStatus
TellsMade name made old new (Ok told) = Tells (λ text. text ≡ made_line made name) old new (Ok tt) × (told ≡ made)
TellsMade name made old new (Err s) = Tells (λ text. text ≡ made_line made name) old new (Err s)

-- A file is made where none is there, and that is told.
abbrev pub MakesDraft : List ℕ → List ℕ → Step Bool ArchiveStatus
MakesDraft name bytes = Then (MakesNew name bytes) (TellsMade name)

-- The draft of the file at this place, and its name.
pub record IsDraftAt (b : Batch) (i : ℕ) (name : List ℕ) (proof : Detached) : Type 0 where
  pub named : slice_get b.names i ≡ Some name
  pub target : Target
  pub at : slice_get b.targets i ≡ Some target
  pub draft : IsDraftOf (leaves b.targets) i target b.addresses proof

-- It is made.
abbrev pub WritesAt : Batch → ℕ → Step Bool ArchiveStatus
WritesAt b i old new r = (name : List ℕ) × (proof : Detached) × IsDraftAt b i name proof
    × MakesDraft (draft_name name) (file_of proof) old new r

-- Those of all files are made in order: of each it is given whether it was made, for one that is there stays.
abbrev pub WritesAll : Batch → Step (List Bool) ArchiveStatus
WritesAll b = Each (λ i. IfRoom (WritesAt b i)) (range_with_len 0 (length b.names))

-- ---- what was read

abbrev pub read_batch : ReadBatch → Batch
read_batch b = record { addresses = map text_of b.urls.now; names = texts b.names.now; targets = b.targets.now }
