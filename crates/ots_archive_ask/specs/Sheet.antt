-- The sheet of what proofs want is made.
use Rattle.std.specs.Prelude.{◌≡◌, ◌↔◌, ℕ, Bool, true, false, List, [], ◌++◌, map, Result, Err}
use Rattle.std.specs.List.{flat_map}
use Rattle.ots_archive_ask.specs.Total.{Total}
use Rattle.ots_archive_steps.specs.Making.{MakesNew}
use Rattle.ots_archive_steps.specs.Printing.{Refuses, Tells, TellsRefusal}
use Rattle.ots_archive_steps.specs.Worst.{worse}
use Rattle.ots_archive_text.specs.Lines.{asks_text, skipped_text}
use Rattle.ots_archive_text.specs.declared.status.ArchiveStatus.{ArchiveStatus}
use Rattle.ots_archive_text.specs.declared.status.ArchiveStatus.TheVariants.{Exists, TooManyRequests}
use Rattle.ots_archive_world.specs.Steps.{Gives, Step, Then}
use Rattle.ots_archive_world.specs.Told.{Told}
use Rattle.ots_request_set.specs.RequestSet.{Has, count_of}
use Rattle.ots_sheet.specs.Request.{RequestParts, request_line}
use Rattle.ots_sheet.specs.Sheet.{AreInOrder, FitsSheet, IsRequests, request_sheet}

-- These are the requests of a list, each once, in the order of a sheet.
pub record AreOnce (wanted requests : List RequestParts) : Type 0 where
  pub order : AreInOrder requests
  pub members : (r : RequestParts) → Has requests r ↔ Has wanted r

-- Some of the requests of a list, each once and in the order of a sheet, are more than a sheet holds. So all are.
pub record AreTooMany (wanted : List RequestParts) : Type 0 where
  pub some : List RequestParts
  pub order : AreInOrder some
  pub members : (r : RequestParts) → Has some r → Has wanted r
  pub past : FitsSheet (map request_line some) → ⊥

-- how many requests a calendar has
abbrev pub asks_line : List RequestParts → List ℕ → List ℕ
asks_line requests url = asks_text url (count_of url requests)

-- a line for each calendar, in the order of the list, and one for the pairs that have another address
abbrev pub asked_text : List (List ℕ) → List RequestParts → ℕ → List ℕ
asked_text urls requests skipped = flat_map (asks_line requests) urls ++ skipped_text skipped

-- It is told what a sheet that was made holds, or that its name was there.
abbrev pub TellsSheet : List ℕ → List ℕ → ArchiveStatus → Bool → Step ArchiveStatus ArchiveStatus
TellsSheet name text status true = Then (Tells (λ told. told ≡ text)) (λ done. Gives status)
TellsSheet name text status false = Then (TellsRefusal name Exists) (λ done. Gives (worse status Exists))

-- The sheet of all that is wanted is made; or that is more than a sheet holds, and the run ends.
pub data WritesSheet (name : List ℕ) (urls : List (List ℕ)) (t : Total) (old new : Told)
    (r : Result ArchiveStatus ArchiveStatus) : Type 0 where
  fits : (requests : List RequestParts) → AreOnce t.wanted requests → IsRequests requests
      → Then (MakesNew name (request_sheet requests)) (TellsSheet name (asked_text urls requests t.skipped) t.status)
      old new r → WritesSheet name urls t old new r
  many : (s : ArchiveStatus) → AreTooMany t.wanted → Refuses [] TooManyRequests old new s → r ≡ Err s
      → WritesSheet name urls t old new r
