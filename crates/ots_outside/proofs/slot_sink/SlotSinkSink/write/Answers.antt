use Rattle.std.proofs.Common.{refl, ap}
use Rattle.ots_outside.specs.Shelf.{name_of}
use Rattle.ots_outside.proofs.Names.{writes_from_write, others_from_write}
use Rattle.ots_outside.proofs.slot_sink.SlotSinkSink.write.Goals as goal

pub returns-clause-bytes : goal.returns-clause-bytes
returns-clause-bytes g c =
    writes_from_write _ _ (g.S.Shelf.told c.args.self.now.shelf.now) (g.S.Shelf.told c.write.new.self) c.write.result _
    (ap name_of (c.write.ensures.others.slots c.args.self.now.slot.0)) c.write.ensures.bytes

pub returns-clause-same : goal.returns-clause-same
returns-clause-same g c =
    (refl, refl, c.write.ensures.counts, others_from_write _ (g.S.Shelf.told c.args.self.now.shelf.now) (g.S.Shelf.told c.write.new.self) c.write.result _ c.write.ensures.bytes c.write.ensures.others)
