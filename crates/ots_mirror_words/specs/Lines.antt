-- The lines of a run.
use Rattle.std.specs.Prelude.{ℕ, List, ◌++◌, codes, decimal}
use Rattle.ots_outputs.specs.Lines.{line}
use Rattle.ots_mirror_words.specs.declared.outcome.RoundOutcome.{RoundOutcome}
use Rattle.ots_mirror_words.specs.declared.outcome.RoundOutcome.TheVariants.{Took, Current, BadPage, Unreachable}
use Rattle.ots_mirror_words.specs.declared.outcome.RoundOutcome.TheVariants.{Status, TooLong, BadHttp}

abbrev pub round_line : RoundOutcome → List ℕ
round_line (Took count) = line (codes "took " ++ decimal count)
round_line Current = line (codes "current")
round_line BadPage = line (codes "bad page")
round_line Unreachable = line (codes "unreachable")
round_line (Status code) = line (codes "status " ++ decimal code)
round_line TooLong = line (codes "too long")
round_line BadHttp = line (codes "not http")

-- how many records there are at the end
abbrev pub records_line : ℕ → List ℕ
records_line count = line (codes "records " ++ decimal count)
