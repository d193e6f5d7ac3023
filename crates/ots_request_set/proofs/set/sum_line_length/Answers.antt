use Rattle.std.proofs.Common.{arith}
use Rattle.ots_request_set.proofs.Kept.{sum_short}
use Rattle.ots_request_set.proofs.set.sum_line_length.Goals as goal

pub overflow_add-result : goal.overflow_add-result
overflow_add-result c = let short = sum_short c.args.count c.requires in omega (arith, short, c.digits.ensures)
