use Rattle.std.proofs.Common.{arith}
use Rattle.ots_request_set.proofs.Places.{found, none_at_all, none_more}
use Rattle.ots_request_set.proofs.set.place_among.Goals as goal

pub returns-then-eq-clause-some : goal.returns-then-eq-clause-some
returns-then-eq-clause-some c =
    found c.args.urls.now c.loop-place.place c.index-urls-place.result _ _ _ (omega arith) c.index-urls-place.is c.text.ensures.text c.eq.ensures c.if-eq.true

pub loop-place-preserved : goal.loop-place-preserved
loop-place-preserved c =
    none_more c.args.urls.now c.loop-place.place c.index-urls-place.result _ _ _ (omega arith) c.index-urls-place.is c.text.ensures.text c.eq.ensures c.if-eq.false c.loop-place.invariant

pub returns-clause-none : goal.returns-clause-none
returns-clause-none c = none_at_all c.args.urls.now c.loop-place.place _ (omega arith) c.loop-place.invariant
