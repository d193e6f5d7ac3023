use Rattle.std.proofs.Common.{refl, arith}
use Rattle.ots_outside.proofs.KeptRoom.{kept_new}
use Rattle.ots_outside.proofs.small_bytes.SmallBytes.new.Goals as goal

pub invariant_of-result : goal.invariant_of-result
invariant_of-result c = kept_new _ c.args.bytes.now _ c.copy_from_slice.ensures.after refl (omega arith) (omega arith)
