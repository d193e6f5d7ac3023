use Rattle.std.proofs.Common.{refl, ◌∙◌, arith}
use Rattle.std.proofs.lemmas.List.{take_all}
use Rattle.ots_stamping.proofs.Drawn.{drawn_next, failed_draw, one_more_drawn, some_drawn}
use Rattle.ots_stamping.proofs.drawing.draw_targets.Goals as goal

pub loop-digest-init : goal.loop-digest-init
loop-digest-init g c = rw c.in_ok-targets.ensures.items (record { digests_are = refl; draws = refl; later = omega arith })

pub returns-in_err-fill16-clause-failed : goal.returns-in_err-fill16-clause-failed
returns-in_err-fill16-clause-failed g c =
    failed_draw _ _ c.from_residual-in_err-fill16.result (let first = c.loop-digest.invariant.later in let last = c.in_err-fill16.ensures.cause.failed in omega (arith, first, last))

pub returns-in_err-fill16-clause-draws : goal.returns-in_err-fill16-clause-draws
returns-in_err-fill16-clause-draws g c = some_drawn g.N.Nonces.left c.loop-digest.invariant c.fill16.new.self c.in_err-fill16.ensures.failed

pub returns-in_err-push-clause-draws : goal.returns-in_err-push-clause-draws
returns-in_err-push-clause-draws g c =
    one_more_drawn g.N.Nonces.left c.loop-digest.invariant c.fill16.new.self c.fill16.new.out c.loop-digest-test.true c.in_ok-fill16.ensures.drawn c.fill16.array_long

pub loop-digest-preserved : goal.loop-digest-preserved
loop-digest-preserved g c = rw c.in_ok-push.ensures.items
    (drawn_next g.N.Nonces.left c.loop-digest.invariant c.fill16.new.self _ c.digest-item.result c.loop-digest-test.true c.digest-item.is c.in_ok-fill16.ensures.drawn c.in_ok-fill16.ensures.cause.later)

pub returns-clause-digests : goal.returns-clause-digests
returns-clause-digests g c = c.loop-digest.invariant.digests_are ∙ take_all c.loop-digest.digest-index c.args.digests.now c.loop-digest-test.false

pub returns-clause-drawn : goal.returns-clause-drawn
returns-clause-drawn g c = c.loop-digest.invariant.draws

pub returns-clause-draws : goal.returns-clause-draws
returns-clause-draws g c = some_drawn g.N.Nonces.left c.loop-digest.invariant c.loop-digest.nonces refl
