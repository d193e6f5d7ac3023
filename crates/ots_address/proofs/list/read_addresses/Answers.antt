use Rattle.std.proofs.Common.{arith}
use Rattle.ots_address.proofs.ListLemmas.{reads_more}
use Rattle.ots_address.proofs.list.read_addresses.Goals as goal

pub loop-rest-preserved : goal.loop-rest-preserved
loop-rest-preserved c = record {
  reads = reads_more _ c.loop-rest.addresses.items _ c.in_ok-address.address _ _ _ _ (rw c.in-Some.is at c.loop-rest.invariant.reads) c.cut_piece.ensures
      c.in_ok-address.ensures.ok.0 c.in_ok-address.ensures.named (rw c.deref.ensures.value at c.in_ok-address.ensures.ok.1) c.in_ok-push.ensures.items;
  lengths = omega (arith, rw c.in-Some.is at c.loop-rest.invariant.lengths, c.cut_piece.ensures.lengths);
}
