-- What a file that this process makes is seen as.
use Rattle.std.specs.Prelude.{ℕ, List, Option, Result, MatchResult, take}
use Rattle.std.specs.Io.KnownBytes.{Appends}
use Rattle.ots_real.specs.FileCalls.{FileCall}
use Rattle.ots_real.specs.FileLog.{logged}
use Rattle.ots_real.specs.declared.new_file.NewFile.{NewFile}

-- The calls that were made of it, the newest first.
abbrev pub calls_of : {F : Type 0} → NewFile F → List FileCall
calls_of file = logged file.log

-- The file of the system.
abbrev pub file_in : {F : Type 0} → NewFile F → F
file_in file = file.file

-- How often a call of it has failed.
abbrev pub new_faults : {F : Type 0} → NewFile F → ℕ
new_faults file = file.faults

-- What a file holds after a write with this answer: so many more bytes of the piece where it is Ok; else it may have
-- taken some.
abbrev pub AppendsSome : {E : Type 0} → Option (List ℕ) → Option (List ℕ) → Result ℕ E → List ℕ → Type 0
AppendsSome old new result piece =
    MatchResult result (λ n. Appends old new (take n piece)) (λ _. (n : ℕ) × Appends old new (take n piece))
