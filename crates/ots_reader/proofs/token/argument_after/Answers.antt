use Rattle.std.proofs.Common.{arith}
use Rattle.ots_reader.proofs.TokenReadLemmas.{argument_made}
use Rattle.ots_reader.proofs.token.argument_after.Goals as goal

pub returns-clause-ok : goal.returns-clause-ok
returns-clause-ok c =
    argument_made c.args.length c.args.used c.args.bytes.now c.in-Ok.argument.bytes.now c.requires (λ k. omega (arith, c.type_inv.bytes k))
    (omega arith) (omega arith) (omega arith) c.in-Ok.ensures.ok
