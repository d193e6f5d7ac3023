use Rattle.std.proofs.Common.{◌≡◌, ◌<◌, ◌∙◌, subst, length, List, ℕ, get_or}
use Rattle.ots_merkle.specs.BlockTree.{above_side}
use Rattle.ots_merkle.specs.declared.branch.Side.{Side}
use Rattle.ots_calendar.proofs.Climbing.{climb_more}
use Rattle.ots_calendar.proofs.values.climb.Goals as goal

pub loop-side-preserved : goal.loop-side-preserved
loop-side-preserved c =
    climb_more c.args.branch.now c.loop-side.side-index c.loop-side.reached c.above-reached.result _ (subst (λ (l : List (Side × List ℕ)). c.loop-side.side-index < length l) c.items-side-items.ensures c.loop-side-test.true)
    (subst (λ (l : List (Side × List ℕ)). c.above-reached.result ≡ above_side (get_or l c.loop-side.side-index _).0 (get_or l c.loop-side.side-index _).1 c.loop-side.reached) c.items-side-items.ensures c.above-reached.ensures)
    ∙ c.loop-side.invariant
