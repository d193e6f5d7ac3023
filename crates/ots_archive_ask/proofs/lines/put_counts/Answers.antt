use Rattle.std.proofs.Common.{◌∙◌, arith, ap, length, get_or, ◌≡◌}
use Rattle.ots_archive_ask.proofs.Counts.{one_line_more}
use Rattle.ots_printer.proofs.Pieces.{puts_as, puts_then}
use Rattle.ots_archive_ask.proofs.lines.put_counts.Goals as goal

pub loop-place-preserved : goal.loop-place-preserved
loop-place-preserved g c =
    let urls = c.args.set.now.urls in
    let item = c.url-item.result in
    let is : item ≡ get_or urls c.loop-place.place item = c.url-item.is ∙ ap (λ us. get_or us c.loop-place.place item) c.urls-url-items.ensures.urls in
    puts_as (one_line_more urls c.args.set.now.requests c.loop-place.place item c.text.result.now c.count.result (omega (arith, c.loop-place-test.true, ap length c.urls-url-items.ensures.urls)) is
    c.text.ensures.text c.count.ensures)
    (puts_then c.loop-place.invariant c.put_asks.ensures g.met.K.Sink.same_trans)
