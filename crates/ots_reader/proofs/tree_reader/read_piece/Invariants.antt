use Rattle.std.proofs.Common.{◌-◌, length}
use Rattle.ots_reader.proofs.WithinPiece.{IsReadUpTo}
use Rattle.ots_reader.proofs.tree_reader.read_piece.Given as goal

abbrev pub invariant-loop-next : goal.invariant-loop-next
invariant-loop-next l = IsReadUpTo l.fn.reader l.piece l.reader l.tokens l.at

abbrev pub decreases-loop-next : goal.decreases-loop-next
decreases-loop-next l = length l.piece - l.at
