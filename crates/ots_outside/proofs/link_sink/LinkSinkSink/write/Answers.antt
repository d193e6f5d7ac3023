use Rattle.std.proofs.Common.{refl}
use Rattle.ots_outside.proofs.Links.{writes_as_sink, writes_only}
use Rattle.ots_outside.proofs.link_sink.LinkSinkSink.write.Goals as goal

pub returns-clause-bytes : goal.returns-clause-bytes
returns-clause-bytes g c = writes_as_sink _ _ c.write.result _ c.write.ensures.bytes

pub returns-clause-same : goal.returns-clause-same
returns-clause-same g c = (refl, c.write.ensures.same, writes_only _ _ c.write.result _ c.write.ensures.bytes)
