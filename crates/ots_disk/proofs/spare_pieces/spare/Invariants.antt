use Rattle.std.proofs.Common.{◌≡◌, All, length}
use Rattle.ots_disk.specs.Reserved.{IsSparePiece}
use Rattle.ots_disk.proofs.spare_pieces.spare.Given as goal

-- So many pieces are there as turns were done.
abbrev pub invariant-loop : goal.invariant-loop
invariant-loop l = record {
  count : length l.pieces.items ≡ l.counter;
  spare : All (IsSparePiece l.room) l.pieces.items;
}
