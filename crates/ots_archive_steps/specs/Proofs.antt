-- The proofs that a command names.
use Rattle.std.specs.Prelude.{◌≡◌, ◌≢◌, ◌⊎◌, ℕ, List, ◌++◌, codes, Result, Ok, Err}
use Rattle.std.specs.Str.{IsUtf8}
use Rattle.ots_archive_inputs.specs.Inputs.{RefusesProof}
use Rattle.ots_archive_steps.specs.Entries.{Entry, line, name_of, word}
use Rattle.ots_archive_steps.specs.Inputs.{Looks}
use Rattle.ots_archive_steps.specs.Ends.{IfRoom}
use Rattle.ots_archive_steps.specs.Printing.{TellsRefusal}
use Rattle.ots_archive_text.specs.declared.status.ArchiveStatus.{ArchiveStatus}
use Rattle.ots_archive_text.specs.declared.status.ArchiveStatus.TheVariants.{BadName, NoFile, OutOfMemory}
use Rattle.ots_archive_world.specs.Steps.{Step}
use Rattle.ots_archive_world.specs.Told.{Told}
use Rattle.ots_detached.specs.File.{IsFileOf}
use Rattle.ots_tree.specs.declared.detached.Detached.{Detached}

-- the proof whose file is under a name
abbrev pub ReadsNamed : List ℕ → Step Detached ArchiveStatus
ReadsNamed name old new r = Looks IsFileOf RefusesProof name old new r

-- the draft of a file, or where there is none its proof
pub data DraftOrProof (name : List ℕ) (old new : Told) (r : Result Detached ArchiveStatus) : Type 0 where
  draft : IfRoom (ReadsNamed (name ++ codes ".draft")) old new r → r ≢ Err NoFile → DraftOrProof name old new r
  proof : (mid : Told) → IfRoom (ReadsNamed (name ++ codes ".draft")) old mid (Err NoFile)
      → IfRoom (ReadsNamed (name ++ codes ".ots")) mid new r → DraftOrProof name old new r

-- the same of a name of bytes, of which no file has one that isn't UTF-8
pub data ReadsLine (name : List ℕ) (old new : Told) (r : Result Detached ArchiveStatus) : Type 0 where
  text : IsUtf8 name → DraftOrProof name old new r → ReadsLine name old new r
  no_text : (IsUtf8 name → ⊥) → new ≡ old → r ≡ Err BadName → ReadsLine name old new r

-- the proof that is named
abbrev pub ReadsProof : Entry → Step Detached ArchiveStatus
ReadsProof (word name) old new r = ReadsNamed name old new r
ReadsProof (line name) old new r = ReadsLine name old new r

-- A run goes on after what is told of a proof, but where memory ran out.
abbrev pub GoesOn : ArchiveStatus → Type 0
GoesOn s = s ≢ OutOfMemory

-- The proof that is named; or its refusal, whose line is printed, and the run goes on.
abbrev pub Tries : Entry → Step (Result Detached ArchiveStatus) ArchiveStatus
Tries entry old new (Ok (Ok found)) = ReadsProof entry old new (Ok found)
Tries entry old new (Ok (Err why)) = (mid : Told) × ReadsProof entry old mid (Err why) × GoesOn why
    × TellsRefusal (name_of entry) why mid new (Ok tt)
Tries entry old new (Err s) = (ReadsProof entry old new (Err OutOfMemory) × (s ≡ OutOfMemory))
    ⊎ ((mid : Told) × (why : ArchiveStatus) × ReadsProof entry old mid (Err why) × GoesOn why
    × TellsRefusal (name_of entry) why mid new (Err s))
