use Rattle.ots_canon.proofs.Runs.{heads_more}
use Rattle.ots_canon.proofs.heads.items_at.Goals as goal

pub loop-place-preserved : goal.loop-place-preserved
loop-place-preserved c =
    heads_more c.args.places.now c.loop-place.place-index c.head_of.result c.loop-place-test.true c.at.ensures c.head_of.ensures
    c.in_ok-push.ensures.items c.loop-place.invariant
