use Rattle.std.proofs.Common.{◌≡◌, ◌∷◌, [], ap, arith}
use Rattle.ots_gateway.specs.declared.served.GateServed.{GateServed}
use Rattle.ots_gateway_run.specs.Rounds.{stamped}
use Rattle.ots_gateway_run.proofs.Counting.{stamped_next, stamped_none}
use Rattle.ots_gateway_run.proofs.rounds.stamped.Goals as goal
use Rattle.ots_gateway_run.proofs.rounds.stamped.Goals.{in-Stamped, in_default}

pub loop-one-preserved : goal.loop-one-preserved
loop-one-preserved c =
    let next = stamped_next c.args.served.now c.loop-one.one-index c.one-item.result c.loop-one-test.true c.one-item.is in
    elim c.match-one.branch [
      | in-Stamped w ↦
          let one : stamped (c.one-item.result ∷ []) ≡ 1 = ap (λ (s : GateServed). stamped (s ∷ [])) w.in-Stamped.is in
          record { count = omega (arith, w.stamped-is, c.loop-one.invariant.count, next, one); few = omega (arith, w.stamped-is, c.loop-one.invariant.few) }
      | in_default w ↦
          let none = stamped_none c.one-item.result w.in_default.not-Stamped in
          record { count = omega (arith, w.stamped-is, c.loop-one.invariant.count, next, none); few = omega (arith, w.stamped-is, c.loop-one.invariant.few) }
    ]
