use Rattle.std.proofs.Common.{arith}
use Rattle.ots_varint.proofs.Written.{count_begins, count_goes_on, count_ends}
use Rattle.ots_varint.proofs.writing.varuint_length.Goals as goal

pub loop-rest-init : goal.loop-rest-init
loop-rest-init c = count_begins c.args.n (omega arith)

pub loop-rest-preserved : goal.loop-rest-preserved
loop-rest-preserved c = let l = c.loop-rest in count_goes_on c.args.n l.length l.rest l.invariant c.loop-rest-test.true

pub returns : goal.returns
returns c = let l = c.loop-rest in count_ends c.args.n l.length l.rest l.invariant c.loop-rest-test.false
