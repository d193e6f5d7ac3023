use Rattle.std.proofs.Common.{◌≡◌, fold, map}
use Rattle.ots_ripemd.specs.Ripemd160.{compressed, pieces, words}
use Rattle.ots_ripemd.proofs.hasher.compress_all.Given as goal

abbrev pub invariant-loop-i : goal.invariant-loop-i
invariant-loop-i l = l.h ≡ fold compressed l.fn.h (map words (pieces 64 l.i l.bytes))
