use Rattle.ots_archive_take.proofs.Seen.{Seen}
use Rattle.ots_archive_take.proofs.names.first_twice.Given as goal

abbrev pub invariant-loop-index : goal.invariant-loop-index
invariant-loop-index l = Seen l.fn.names l.index l.seen
