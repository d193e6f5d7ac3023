use Rattle.std.proofs.Common.{◌≡◌, ◌+◌, length}
use Rattle.ots_format_rows.proofs.hashes.in_pieces.Given as goal

abbrev pub invariant-loop-piece : goal.invariant-loop-piece
invariant-loop-piece l =
    (goal.iterator-loop-piece).can_next l.piece-iterator ×
    (goal.iterator-loop-piece).is_finite l.piece-iterator ×
    (length l.hasher + l.left ≡ 4194304)
