use Rattle.std.proofs.Common.{arith}
use Rattle.ots_base.proofs.AllBytes.{all_bytes}
use Rattle.ots_base.proofs.bytes.are_bytes.Goals as goal

pub returns : goal.returns
returns c = all_bytes c.args.bytes.now (λ k. omega (arith, c.type_inv.bytes k))
