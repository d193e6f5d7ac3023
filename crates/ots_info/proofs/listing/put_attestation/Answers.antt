use Rattle.std.proofs.Common.{◌∙◌, ◌++◌, ap, sym}
use Rattle.std.specs.Prelude.{codes}
use Rattle.hex.specs.Hex.{encode_lower}
use Rattle.ots_info.specs.Listing.{attestation_words, or_dash}
use Rattle.ots_printer.proofs.Pieces.{puts_as, puts_then}
use Rattle.ots_info.proofs.listing.put_attestation.Goals as goal

pub returns-in-Pending : goal.returns-in-Pending
returns-in-Pending g c = puts_as (ap (λ z. codes "pending " ++ or_dash z) c.text.ensures.text ∙ ap attestation_words (sym c.in-Pending.is))
    (puts_then c.word.ensures c.put_uri.ensures g.met.K.Sink.same_trans)

pub returns-in-Bitcoin : goal.returns-in-Bitcoin
returns-in-Bitcoin g c = puts_as (ap attestation_words (sym c.in-Bitcoin.is)) (puts_then c.word-in-Bitcoin.ensures c.number.ensures g.met.K.Sink.same_trans)

pub returns-in-Litecoin : goal.returns-in-Litecoin
returns-in-Litecoin g c = puts_as (ap attestation_words (sym c.in-Litecoin.is)) (puts_then c.word-in-Litecoin.ensures c.number-in-Litecoin.ensures g.met.K.Sink.same_trans)

pub returns-in-Unknown : goal.returns-in-Unknown
returns-in-Unknown g c =
    let payload = c.bytes.ensures.bytes ∙ c.payload.ensures in
    puts_as ((λ i. codes "unknown " ++ encode_lower (c.kind.ensures i) ++ codes " " ++ or_dash (encode_lower (payload i))) ∙ ap attestation_words (sym c.in-Unknown.is))
    (puts_then (puts_then c.put_with_hex.ensures c.word-in-Unknown.ensures g.met.K.Sink.same_trans) c.put_payload.ensures g.met.K.Sink.same_trans)
