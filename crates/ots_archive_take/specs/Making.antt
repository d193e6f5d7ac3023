-- The proofs are made.
use Rattle.std.specs.Prelude.{◌≡◌, ℕ, Bool, true, false, List, Result, Ok, Err}
use Rattle.std.specs.Str.{IsUtf8}
use Rattle.ots_archive_steps.specs.Making.{MakesNew}
use Rattle.ots_archive_steps.specs.Printing.{Tells, TellsRefusal}
use Rattle.ots_archive_text.specs.Lines.{made_text, same_text}
use Rattle.ots_archive_text.specs.declared.status.ArchiveStatus.{ArchiveStatus}
use Rattle.ots_archive_text.specs.declared.status.ArchiveStatus.TheVariants.{BadName, Exists}
use Rattle.ots_archive_world.specs.Steps.{Step, Then}
use Rattle.ots_archive_world.specs.Told.{Told}

-- This is told, and gives the status of a proof.
abbrev pub TellsStatus : (List ℕ → Type 0) → ArchiveStatus → Step ArchiveStatus ArchiveStatus
TellsStatus IsText status old new (Ok s) = Tells IsText old new (Ok tt) × (s ≡ status)
TellsStatus IsText status old new (Err e) = Tells IsText old new (Err e)

-- No path came to a proof.
abbrev pub TellsSame : List ℕ → Bool → ArchiveStatus → Step ArchiveStatus ArchiveStatus
TellsSame name complete status = TellsStatus (λ text. text ≡ same_text name complete) status

-- No proof is made.
abbrev pub TellsRefused : List ℕ → ArchiveStatus → Step ArchiveStatus ArchiveStatus
TellsRefused name status old new (Ok s) = TellsRefusal name status old new (Ok tt) × (s ≡ status)
TellsRefused name status old new (Err e) = TellsRefusal name status old new (Err e)

-- A file was made, or was there.
abbrev pub TellsMade : List ℕ → Bool → ArchiveStatus → Bool → Step ArchiveStatus ArchiveStatus
TellsMade name complete status true = TellsStatus (λ text. text ≡ made_text name complete) status
TellsMade name complete status false = TellsRefused name Exists

abbrev pub MakesNamed : List ℕ → List ℕ → Bool → ArchiveStatus → Step ArchiveStatus ArchiveStatus
MakesNamed name bytes complete status = Then (MakesNew name bytes) (TellsMade name complete status)

-- The file of a proof, with its status, under a name of bytes.
pub data MakesProof (name bytes : List ℕ) (complete : Bool) (status : ArchiveStatus) (old new : Told)
    (r : Result ArchiveStatus ArchiveStatus) : Type 0 where
  named : IsUtf8 name → MakesNamed name bytes complete status old new r
      → MakesProof name bytes complete status old new r
  no_text : (IsUtf8 name → ⊥) → TellsRefused name BadName old new r
      → MakesProof name bytes complete status old new r
