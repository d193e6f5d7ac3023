use Rattle.std.proofs.Common.{ap, length}
use Rattle.ots_detached.proofs.Files.{tree_error, trailing}
use Rattle.ots_detached.proofs.reading.read_after.Goals as goal

pub returns-in-Err-clause-err : goal.returns-in-Err-clause-err
returns-in-Err-clause-err c =
    rw c.moved_error.ensures
    (tree_error c.args.bytes.now c.args.header.hash c.args.header.digest _ c.in-Err.error c.requires.size c.requires.header (ap length c.bytes-length.ensures.bytes) c.in-Err.ensures.err)

pub returns-then-end-bytes-clause-err : goal.returns-then-end-bytes-clause-err
returns-then-end-bytes-clause-err c = (
  c.requires.size,
  trailing c.args.bytes.now c.args.header.hash c.args.header.digest _ c.in-Ok.read.1 c.in-Ok.read.0 c.requires.size c.requires.header (ap length c.bytes-length.ensures.bytes) c.in-Ok.ensures.ok
      c.if-end-bytes.true,
)
