use Rattle.std.proofs.Common.{◌≡◌, ◌∙◌, get_or}
use Rattle.std.proofs.lemmas.List.{length-set}
use Rattle.std.proofs.Math.Seq.{map-set_same}
use Rattle.ots_http.specs.Seen.{LinkSeen}
use Rattle.ots_gateway.proofs.round.finish_all.Goals as goal

pub loop-i-preserved : goal.loop-i-preserved
loop-i-preserved g c =
    let seen : g.row.L.Denot → LinkSeen = (λ k. record { told = g.L.Link.told k; faults = g.L.Link.faults k }) in
    let kept : seen c.finish.new.self ≡ seen (get_or c.loop-i.links c.loop-i.i c.index-links-i.result) = (λ i. record { told = c.finish.ensures.told i; faults = c.finish.ensures.faults i }) in
    record {
      same = map-set_same seen c.loop-i.links c.loop-i.i c.finish.new.self c.index-links-i.result kept ∙ c.loop-i.invariant.same;
      long = length-set c.loop-i.links c.loop-i.i c.finish.new.self ∙ c.loop-i.invariant.long;
    }
