-- The lines of a run.
use Rattle.std.specs.Prelude.{ℕ, List, ◌++◌, codes, decimal, zip}
use Rattle.std.specs.List.{flat_map}
use Rattle.ots_address.specs.Address.{AddressParts}
use Rattle.ots_asking.specs.declared.outcome.Outcome.{Outcome}
use Rattle.ots_lines.specs.Lines.{calendar_line}
use Rattle.ots_outputs.specs.Lines.{line}

-- the port that is listened on
abbrev pub listening_line : ℕ → List ℕ
listening_line port = line (codes "listening " ++ decimal port)

-- how many links of a round were stamped
abbrev pub count_line : ℕ → List ℕ
count_line stamped = line (codes "round " ++ decimal stamped)

-- a round: each calendar that has an outcome, with what came of asking it, in order; then how many links were stamped
abbrev pub round_lines : List AddressParts → List Outcome → ℕ → List ℕ
round_lines calendars outcomes stamped = flat_map calendar_line (zip calendars outcomes) ++ count_line stamped
