use Rattle.std.proofs.Common.{arith}
use Rattle.ots_reader.proofs.TokenReadLemmas.{body_read, never_memory}
use Rattle.ots_reader.proofs.token.body_after.Goals as goal

pub reason_of-requires : goal.reason_of-requires
reason_of-requires c = λ e. never_memory c.args.kind _ (rw e at c.in-Err.ensures.err)

pub returns-in-Ok-clause-ok : goal.returns-in-Ok-clause-ok
returns-in-Ok-clause-ok c =
    body_read c.args.length c.args.used c.args.kind c.args.bytes.now _ c.requires (omega arith) c.in-Ok.ensures.ok
