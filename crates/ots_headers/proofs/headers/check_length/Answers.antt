use Rattle.std.proofs.Common.{rules, arith}
use Rattle.ots_headers.proofs.TableBytes.{table_of_bytes}
use Rattle.ots_headers.proofs.headers.check_length.Goals as goal

pub returns-clause-ok : goal.returns-clause-ok
returns-clause-ok c =
    λ first start. table_of_bytes first c.args.bytes.now start (search rules) (search rules) (search rules) (λ k. omega (arith, c.type_inv.bytes k))
