use Rattle.ots_varint.proofs.Written.{IsCounted}
use Rattle.ots_varint.proofs.writing.varuint_length.Given as goal

abbrev pub invariant-loop-rest : goal.invariant-loop-rest
invariant-loop-rest l = IsCounted l.n l.length l.rest

abbrev pub decreases-loop-rest : goal.decreases-loop-rest
decreases-loop-rest l = l.rest
