use Rattle.ots_varint.proofs.Written.{IsWritten}
use Rattle.ots_varint.proofs.writing.put_varuint.Given as goal

abbrev pub invariant-loop-rest : goal.invariant-loop-rest
invariant-loop-rest l = IsWritten l.n l.initial.out l.out l.at l.rest

abbrev pub decreases-loop-rest : goal.decreases-loop-rest
decreases-loop-rest l = l.rest
