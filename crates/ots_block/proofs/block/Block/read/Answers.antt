use Rattle.std.proofs.Common.{arith}
use Rattle.ots_block.proofs.Blocks.{read_ok, accepted}
use Rattle.ots_block.proofs.block.Block.read.Goals as goal

pub returns-clause-ok : goal.returns-clause-ok
returns-clause-ok c = read_ok c.args.bytes.now c.keep.result (λ i. omega (arith, c.type_inv.bytes i)) c.keep.ensures

pub returns-clause-accepts : goal.returns-clause-accepts
returns-clause-accepts c = λ block is. accepted c.args.bytes.now c.keep.result block c.keep.ensures is
