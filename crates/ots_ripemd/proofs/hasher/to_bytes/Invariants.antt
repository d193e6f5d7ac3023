use Rattle.std.proofs.Common.{◌≡◌, ◌*◌, length, take, flat_map}
use Rattle.std.specs.Int.{to_le_bytes, w32}
use Rattle.ots_ripemd.proofs.hasher.to_bytes.Given as goal

abbrev pub invariant-loop-i : goal.invariant-loop-i
invariant-loop-i l = (length l.bytes ≡ 20) × (take (4 * l.i) l.bytes ≡ flat_map (to_le_bytes w32) (take l.i l.words))
