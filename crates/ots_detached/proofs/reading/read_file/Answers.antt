use Rattle.ots_detached.proofs.BothWays.{reads}
use Rattle.ots_detached.proofs.reading.read_file.Goals as goal

pub returns-in-Ok-clause-input : goal.returns-in-Ok-clause-input
returns-in-Ok-clause-input g c = reads _ _ c.in-Ok.bytes c.deref.result.now c.read_bytes.result c.in-Ok.ensures.input c.deref.ensures.value c.read_bytes.ensures.ok c.read_bytes.ensures.err
