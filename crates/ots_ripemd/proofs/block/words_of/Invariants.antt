use Rattle.std.proofs.Common.{◌≡◌, length, take, map}
use Rattle.std.specs.Int.{from_le_bytes, w32}
use Rattle.ots_ripemd.specs.Ripemd160.{pieces}
use Rattle.ots_ripemd.proofs.block.words_of.Given as goal

abbrev pub invariant-loop-i : goal.invariant-loop-i
invariant-loop-i l = (length l.x ≡ 16) × (take l.i l.x ≡ map (from_le_bytes w32) (pieces 4 l.i l.block))
