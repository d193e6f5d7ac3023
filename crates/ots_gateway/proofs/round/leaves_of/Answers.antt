use Rattle.std.proofs.Common.{◌∙◌, ◌++◌, ◌∷◌, [], List, append-nil, ap, arith, length, sym, take}
use Rattle.std.proofs.lemmas.List.{length-map}
use Rattle.ots_gateway.specs.Arrived.{waiting_in}
use Rattle.ots_gateway.specs.Ways.{leaf, leaves}
use Rattle.ots_gateway.specs.declared.arrived.Arrived.{Arrived}
use Rattle.ots_gateway.specs.declared.waiting.Waiting.{Waiting}
use Rattle.ots_gateway.proofs.Replied.{leaves_next, waiting_few, waiting_up_to, waits_none}
use Rattle.ots_gateway.proofs.round.leaves_of.Goals as goal
use Rattle.ots_gateway.proofs.round.leaves_of.Goals.{in-Waits+in_ok-push, in_default}

pub loop-one-preserved : goal.loop-one-preserved
loop-one-preserved c =
    let next = leaves_next c.args.arrived.now c.loop-one.one-index c.one-item.result c.loop-one-test.true c.one-item.is in
    elim c.match-one.branch [
      | in-Waits+in_ok-push w ↦ ap (λ v. v.items) w.leaves-is ∙ w.in_ok-push.ensures.items
          ∙ (λ i. c.loop-one.invariant i ++ w.leaf.ensures i ∷ [])
          ∙ ap (λ (a : Arrived). leaves (waiting_in (take c.loop-one.one-index c.args.arrived.now)) ++ leaves (waiting_in (a ∷ []))) (sym w.in-Waits.is) ∙ sym next
      | in_default w ↦ ap (λ v. v.items) w.leaves-is ∙ c.loop-one.invariant
          ∙ sym (append-nil _) ∙ ap (λ (ws : List Waiting). leaves (waiting_in (take c.loop-one.one-index c.args.arrived.now)) ++ leaves ws) (sym (waits_none c.one-item.result w.in_default.not-Waits)) ∙ sym next
    ]

pub returns-clause-few : goal.returns-clause-few
returns-clause-few c =
    let all = waiting_few c.args.arrived.now in
    let up = waiting_up_to c.args.arrived.now c.loop-one.one-index in
    let long = ap length c.loop-one.invariant ∙ length-map _ leaf in
    omega (arith, all, up, long)
