use Rattle.std.proofs.Common.{ap, sym}
use Rattle.ots_info.specs.Listing.{item_words}
use Rattle.ots_printer.proofs.Pieces.{puts_as, puts_then}
use Rattle.ots_info.proofs.listing.put_item.Goals as goal

pub returns-in-Op : goal.returns-in-Op
returns-in-Op g c = puts_as (ap (item_words c.args.depth) (sym c.in-Op.is))
    (puts_then (puts_then (puts_then c.number.ensures c.word.ensures g.met.K.Sink.same_trans) c.put_op.ensures g.met.K.Sink.same_trans) c.word-in-Op.ensures g.met.K.Sink.same_trans)

pub returns-in-Attestation : goal.returns-in-Attestation
returns-in-Attestation g c = puts_as (ap (item_words c.args.depth) (sym c.in-Attestation.is))
    (puts_then (puts_then (puts_then c.number-in-Attestation.ensures c.word-in-Attestation.ensures g.met.K.Sink.same_trans) c.put_attestation.ensures g.met.K.Sink.same_trans) c.word-in-Attestation-2.ensures g.met.K.Sink.same_trans)
