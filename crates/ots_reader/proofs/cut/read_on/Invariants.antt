use Rattle.std.proofs.Common.{◌-◌, length, vec_capacity}
use Rattle.ots_reader.proofs.ReadOn.{Joins}
use Rattle.ots_reader.proofs.cut.read_on.Given as goal

abbrev pub invariant-loop-end : goal.invariant-loop-end
invariant-loop-end l = Joins l.fn.kept.items l.piece l.kept.items l.end (vec_capacity l.fn.kept) (vec_capacity l.kept)

abbrev pub decreases-loop-end : goal.decreases-loop-end
decreases-loop-end l = length l.piece - l.end
