use Rattle.std.proofs.Common.{arith}
use Rattle.ots_calendar_url.proofs.Lists.{reads_more}
use Rattle.ots_calendar_url.proofs.list.read_urls.Goals as goal

pub loop-rest-preserved : goal.loop-rest-preserved
loop-rest-preserved c = record {
  reads = reads_more _ c.loop-rest.urls.items _ c.in_ok-url.url _ _ _ _ (rw c.in-Some.is at c.loop-rest.invariant.reads) c.cut_piece.ensures
      c.in_ok-url.ensures.ok.0 c.in_ok-url.ensures.ok.1 (rw c.deref.ensures.value at c.in_ok-url.ensures.ok.2) c.in_ok-push.ensures.items;
  lengths = omega (arith, rw c.in-Some.is at c.loop-rest.invariant.lengths, c.cut_piece.ensures.lengths);
}
