-- The lines of the commands. A name of bytes is shown as sha256sum does.
use Rattle.std.specs.Prelude.{ℕ, Bool, true, false, List, ◌++◌, codes, decimal}
use Rattle.ots_archive_text.specs.Names.{shown}
use Rattle.ots_archive_text.specs.declared.lines.ReplyCounts.{ReplyCounts}
use Rattle.ots_outputs.specs.Lines.{line}

-- words, and a name
abbrev pub named_line : List ℕ → List ℕ → List ℕ
named_line words name = line (words ++ shown name)

-- whether some path of a proof ends in Bitcoin
abbrev pub completeness : Bool → List ℕ
completeness true = codes " complete"
completeness false = codes " pending"

-- words, the name of a proof, and whether it is complete
abbrev pub proof_line : List ℕ → List ℕ → Bool → List ℕ
proof_line words name complete = line (words ++ shown name ++ completeness complete)

-- a file was written
abbrev pub wrote_text : List ℕ → List ℕ
wrote_text name = named_line (codes "wrote ") name

-- a proof was made, or is the same as before
abbrev pub made_text : List ℕ → Bool → List ℕ
made_text name complete = proof_line (codes "wrote ") name complete

abbrev pub same_text : List ℕ → Bool → List ℕ
same_text name complete = proof_line (codes "same ") name complete

-- how many requests a calendar has, and how many are of none that was named
abbrev pub asks_text : List ℕ → ℕ → List ℕ
asks_text address count = line (address ++ codes " asks " ++ decimal count)

abbrev pub skipped_text : ℕ → List ℕ
skipped_text count = line (codes "skipped " ++ decimal count)

-- what came of the requests of a calendar
abbrev pub replies_text : List ℕ → ReplyCounts → List ℕ
replies_text address c =
    line (address ++ codes " ok " ++ decimal c.ok ++ codes " no " ++ decimal c.no ++ codes " bad " ++ decimal c.bad)
