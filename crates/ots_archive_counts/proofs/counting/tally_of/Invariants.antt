use Rattle.std.proofs.Common.{take}
use Rattle.ots_archive_counts.specs.inner.Tally.{TalliesAnswers}
use Rattle.ots_archive_counts.proofs.counting.tally_of.Given as goal

-- What came of the answers so far is counted.
abbrev pub invariant-loop-at : goal.invariant-loop-at
invariant-loop-at l = TalliesAnswers (take l.at l.replies) l.tally
