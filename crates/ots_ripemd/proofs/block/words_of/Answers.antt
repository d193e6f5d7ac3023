use Rattle.std.proofs.Common.{rules, refl, arith}
use Rattle.std.proofs.lemmas.Slice.{overwrites}
use Rattle.std.specs.Int.{from_le_bytes, w32}
use Rattle.ots_ripemd.specs.Ripemd160.{pieces}
use Rattle.ots_ripemd.proofs.Pieces.{filled_next}
use Rattle.ots_ripemd.proofs.block.words_of.Goals as goal

pub loop-i-init : goal.loop-i-init
unfolding pieces
loop-i-init c = (refl, refl)

pub loop-i-preserved : goal.loop-i-preserved
loop-i-preserved c = (
  search (rules, overwrites),
  filled_next (from_le_bytes w32) 4 c.loop-i.x c.args.block.now c.loop-i.i _ c.loop-i.invariant.1 (omega arith) c.word_at.ensures,
)
