use Rattle.std.proofs.Common.{arith}
use Rattle.ots_tree.proofs.Gathered.{filled_more}
use Rattle.ots_tree.proofs.spelling.gather.Goals as goal

pub returns-clause-gathered : goal.returns-clause-gathered
returns-clause-gathered c =
    filled_more c.args.buffer.now c.put_token.new.out _ _ c.args.filled c.put_token.result (omega arith)
    (omega (arith, c.put_token.ensures.in_range, c.put_token.auto.out)) c.put_token.ensures.spelled
