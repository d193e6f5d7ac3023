use Rattle.std.proofs.Common.{arith}
use Rattle.ots_varint.proofs.Written.{begins, goes_on, ends}
use Rattle.ots_varint.proofs.writing.put_varuint.Goals as goal

pub loop-rest-init : goal.loop-rest-init
loop-rest-init c = begins c.args.n c.args.out.now (omega arith) (omega arith)

pub loop-rest-preserved : goal.loop-rest-preserved
loop-rest-preserved c = let l = c.loop-rest in goes_on c.args.n c.args.out.now l.out l.at l.rest l.invariant c.loop-rest-test.true

pub returns-clause-length : goal.returns-clause-length
returns-clause-length c = let l = c.loop-rest in (ends c.args.n c.args.out.now l.out l.at l.rest l.invariant c.loop-rest-test.false).0

pub returns-clause-spelled : goal.returns-clause-spelled
returns-clause-spelled c = let l = c.loop-rest in (ends c.args.n c.args.out.now l.out l.at l.rest l.invariant c.loop-rest-test.false).1
