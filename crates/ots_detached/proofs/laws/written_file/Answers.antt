use Rattle.ots_detached.proofs.Written.{file_is, is_written}
use Rattle.ots_detached.proofs.laws.written_file.Goals as goal

pub returns-clause-reads : goal.returns-clause-reads
returns-clause-reads c = file_is c.args.proof.now c.limits_of_detached.ensures.digest c.limits_of_detached.ensures.sound c.tokens.ensures.limits

pub returns-clause-writes : goal.returns-clause-writes
returns-clause-writes c = λ b is. is_written b c.args.proof.now is
