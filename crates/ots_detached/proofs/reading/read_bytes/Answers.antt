use Rattle.std.specs.Prelude.{Err}
use Rattle.ots_detached.specs.declared.reading.FileError.TheVariants.{BadProof}
use Rattle.ots_detached.specs.FileFault.{in_header}
use Rattle.ots_detached.proofs.BothWays.{accepted, refused}
use Rattle.ots_detached.proofs.reading.read_bytes.Goals as goal

pub returns-in-Ok-clause-accepts : goal.returns-in-Ok-clause-accepts
returns-in-Ok-clause-accepts c = accepted c.args.bytes.now c.read_after.result c.read_after.ensures.ok c.read_after.ensures.err

pub returns-in-Ok-clause-refuses : goal.returns-in-Ok-clause-refuses
returns-in-Ok-clause-refuses c = refused c.args.bytes.now c.read_after.result c.read_after.ensures.ok c.read_after.ensures.err

pub returns-in-Err-clause-accepts : goal.returns-in-Err-clause-accepts
returns-in-Err-clause-accepts c = accepted c.args.bytes.now (Err (BadProof c.in-Err.fault)) tt (c.if-bytes-gt-MAX_PROOF_FILE.false, in_header c.in-Err.ensures.err)

pub returns-in-Err-clause-refuses : goal.returns-in-Err-clause-refuses
returns-in-Err-clause-refuses c = refused c.args.bytes.now (Err (BadProof c.in-Err.fault)) tt (c.if-bytes-gt-MAX_PROOF_FILE.false, in_header c.in-Err.ensures.err)
