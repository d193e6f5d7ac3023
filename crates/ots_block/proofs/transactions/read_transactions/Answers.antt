use Rattle.std.proofs.Common.{refl}
use Rattle.ots_block.specs.Reading.{many_at}
use Rattle.ots_block.specs.Ends.{laid_at}
use Rattle.ots_block.specs.Given.{halt_of}
use Rattle.ots_block.proofs.Loops.{value_goes_on, value_halts, value_is_done}
use Rattle.ots_block.proofs.transactions.read_transactions.Goals as goal

pub returns-in-Err : goal.returns-in-Err
returns-in-Err c =
    rw (c.in_block.ensures, value_halts laid_at c.loop.all.items c.args.count c.loop.counter c.loop.rest.now (halt_of c.in-Err.stop) (many_at laid_at c.args.count c.args.bytes.now) c.loop-test.true c.in-Err.ensures c.loop.invariant) refl

pub loop-preserved : goal.loop-preserved
loop-preserved c =
    rw c.in_ok-push.ensures.items (value_goes_on laid_at c.loop.all.items c.args.count c.loop.counter c.loop.rest.now c.in-Ok.found.0 c.in-Ok.found.1.now
    (many_at laid_at c.args.count c.args.bytes.now) c.loop-test.true c.in-Ok.ensures c.loop.invariant)

pub returns : goal.returns
returns c = value_is_done laid_at c.loop.all.items c.args.count c.loop.counter c.loop.rest.now (many_at laid_at c.args.count c.args.bytes.now) c.loop-test.false c.loop.invariant
