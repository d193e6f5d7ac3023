use Rattle.std.proofs.Common.{rules, ◌∙◌, arith}
use Rattle.std.proofs.lemmas.Slice.{overwrites}
use Rattle.ots_ripemd.proofs.Writing.{word_written}
use Rattle.ots_ripemd.proofs.hasher.to_bytes.Goals as goal

pub loop-i-preserved : goal.loop-i-preserved
loop-i-preserved c = (
  search (rules, overwrites),
  word_written c.loop-i.bytes _ _ c.loop-i.i _ c.loop-i.invariant.1 (omega arith) (omega arith) (c.copy_from_slice.ensures.after ∙ c.to_le_bytes.ensures),
)
