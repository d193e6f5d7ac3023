use Rattle.std.proofs.Common.{arith}
use Rattle.ots_request_set.proofs.Kept.{sum_short, within_limits}
use Rattle.ots_request_set.proofs.set.RequestSet.is_within.Goals as goal

pub overflow_sub-result : goal.overflow_sub-result
overflow_sub-result c = let short = sum_short c.len-count.result c.if-count-lt-MAX_LINES.true in omega (arith, short, c.sum_line_length.ensures)

pub returns-then-count-lt-MAX_LINES : goal.returns-then-count-lt-MAX_LINES
returns-then-count-lt-MAX_LINES c =
    within_limits _ c.args.self.now c.self.inside.urls.items c.self.inside.keys.keys _ c.self.inside.bytes c.len-count.result c.sum_line_length.result c.self.view_is c.self.invariant
    c.len-count.ensures.len c.sum_line_length.ensures c.if-count-lt-MAX_LINES.true
