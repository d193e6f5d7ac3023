use Rattle.std.proofs.lemmas.Result.{err_from_is_err_and}
use Rattle.ots_block.specs.Ends.{many_end, stack_end}
use Rattle.ots_block.specs.Given.{halt_of}
use Rattle.ots_block.proofs.Loops.{goes_on, halts, is_done}
use Rattle.ots_block.proofs.fields.skip_stacks.Goals as goal

pub returns-in_err-rest : goal.returns-in_err-rest
returns-in_err-rest c =
    let p = err_from_is_err_and c.from_residual.result c.from_residual.ensures.1 in
    rw (p.1, p.2) (halts stack_end c.args.count c.loop.counter c.loop.rest.now (halt_of c.in_err-rest.field-0.0) (many_end stack_end c.args.count c.args.bytes.now)
    c.loop-test.true c.in_err-rest.ensures c.loop.invariant)

pub loop-preserved : goal.loop-preserved
loop-preserved c =
    goes_on stack_end c.args.count c.loop.counter c.loop.rest.now c.in_ok-rest.rest.now (many_end stack_end c.args.count c.args.bytes.now)
    c.loop-test.true c.in_ok-rest.ensures c.loop.invariant

pub returns : goal.returns
returns c = is_done stack_end c.args.count c.loop.counter c.loop.rest.now (many_end stack_end c.args.count c.args.bytes.now) c.loop-test.false c.loop.invariant
