use Rattle.ots_ops.proofs.Spelling.{operation_written}
use Rattle.ots_ops.proofs.spell.spell_op.Goals as goal

pub returns-in-Append-clause-spelled : goal.returns-in-Append-clause-spelled
returns-in-Append-clause-spelled c =
    operation_written c.args.op.now c.tag.result c.in-Append.argument c.bytes.result.now c.args.out.now c.put_varbytes.new.out
    c.tag.ensures c.in-Append.is c.bytes.ensures.bytes c.told-out c.put_varbytes.ensures.spelled
