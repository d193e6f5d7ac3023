-- The files that drafts are made of: their names and their SHA-256.
use Rattle.std.specs.Prelude.{◌≡◌, ◌<◌, ◌≤◌, ◌+◌, ℕ, List, [], ◌∷◌, ◌++◌, length, Result, Ok, Err, Vec}
use Rattle.std.specs.Borrow.{Bor}
use Rattle.std.specs.List.{AllByRecursion}
use Rattle.std.specs.Str.{IsUtf8}
use Rattle.std.specs.declared.alloc.Global.{Global}
use Rattle.ots_archive_inputs.specs.Inputs.{IsHashOf, RefusesTarget}
use Rattle.ots_archive_steps.specs.Ends.{IfRoom}
use Rattle.ots_archive_steps.specs.Inputs.{Needs}
use Rattle.ots_archive_steps.specs.Printing.{Refuses}
use Rattle.ots_archive_text.specs.declared.status.ArchiveStatus.{ArchiveStatus}
use Rattle.ots_archive_text.specs.declared.status.ArchiveStatus.TheVariants.{BadName, BadSums, OutOfMemory}
use Rattle.ots_archive_words.specs.declared.limits.TheConstants.{MAX_NAMES}
use Rattle.ots_archive_world.specs.Steps.{Each, Step}
use Rattle.ots_archive_world.specs.Told.{Told}
use Rattle.ots_arguments.specs.Values.{texts}
use Rattle.ots_sums.specs.Sums.{Entry, names}

-- Each has the 32 bytes of a SHA-256.
abbrev pub AreLong : List (List ℕ) → Type 0
AreLong digests = AllByRecursion (λ digest. length digest ≡ 32) digests

-- the hash of the file under a name
abbrev pub ReadsHash : List ℕ → Step (List ℕ) ArchiveStatus
ReadsHash name old new r = Needs IsHashOf RefusesTarget name old new r

-- of each in order
abbrev pub HashesAll : List (List ℕ) → Step (List (List ℕ)) ArchiveStatus
HashesAll names = Each (λ name. IfRoom (ReadsHash name)) names

-- The names of lines of a file of sums: at most so many, each of UTF-8; or the run ends with the line of the first that
-- is too many, or of the first name that isn't UTF-8.
pub data NamesLines (lines : List Entry) (old new : Told) (r : Result (List (List ℕ)) ArchiveStatus) : Type 0 where
  few : length lines ≤ MAX_NAMES → AllByRecursion IsUtf8 (names lines) → new ≡ old → r ≡ Ok (names lines)
      → NamesLines lines old new r
  many : (s : ArchiveStatus) → MAX_NAMES < length lines → Refuses [] (BadSums (MAX_NAMES + 1)) old new s → r ≡ Err s
      → NamesLines lines old new r
  no_text : (before after : List (List ℕ)) (name : List ℕ) (s : ArchiveStatus) → length lines ≤ MAX_NAMES
      → names lines ≡ before ++ name ∷ after → AllByRecursion IsUtf8 before → (IsUtf8 name → ⊥)
      → Refuses name BadName old new s → r ≡ Err s → NamesLines lines old new r
  no_memory : new ≡ old → r ≡ Err OutOfMemory → NamesLines lines old new r

-- ---- what was read

abbrev pub result_digests : Result (Vec (List ℕ) Global) ArchiveStatus → Result (List (List ℕ)) ArchiveStatus
result_digests (Ok found) = Ok found.items
result_digests (Err s) = Err s

abbrev pub result_names : Result (Vec (Bor (List ℕ)) Global) ArchiveStatus → Result (List (List ℕ)) ArchiveStatus
result_names (Ok found) = Ok (texts found.items)
result_names (Err s) = Err s
