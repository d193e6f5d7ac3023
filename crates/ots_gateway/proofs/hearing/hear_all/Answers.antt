use Rattle.std.proofs.Common.{◌+◌, List, map, arith, set, sym, subst}
use Rattle.ots_gateway.proofs.Arriving.{Hearing, any_err, each_same, hearing_each, hearing_more, hearing_none}
use Rattle.ots_gateway.specs.Arrived.{IsHeard}
use Rattle.ots_gateway.specs.declared.arrived.Arrived.{Arrived}
use Rattle.ots_gateway.proofs.hearing.hear_all.Goals as goal

pub loop-i-init : goal.loop-i-init
loop-i-init g c =
    subst (λ (bs : List Arrived). Hearing (λ k. record { told = g.L.Link.told k; faults = g.L.Link.faults k }) c.args.links.now c.args.links.now bs (record { left = g.N.Nonces.left c.args.nonces.now; faults = g.N.Nonces.faults c.args.nonces.now }) (record { left = g.N.Nonces.left c.args.nonces.now; faults = g.N.Nonces.faults c.args.nonces.now }) 0) (sym c.in_ok-arrived.ensures.items)
    (hearing_none (λ k. record { told = g.L.Link.told k; faults = g.L.Link.faults k }) c.args.links.now (record { left = g.N.Nonces.left c.args.nonces.now; faults = g.N.Nonces.faults c.args.nonces.now }))

pub loop-i-preserved : goal.loop-i-preserved
loop-i-preserved g c =
    subst (λ (bs : List Arrived). Hearing (λ k. record { told = g.L.Link.told k; faults = g.L.Link.faults k }) c.args.links.now (set c.loop-i.links c.loop-i.i c.hear.new.link) bs (record { left = g.N.Nonces.left c.args.nonces.now; faults = g.N.Nonces.faults c.args.nonces.now }) (record { left = g.N.Nonces.left c.hear.new.nonces; faults = g.N.Nonces.faults c.hear.new.nonces }) (c.loop-i.i + 1)) (sym c.in_ok-push.ensures.items)
    (hearing_more (λ k. record { told = g.L.Link.told k; faults = g.L.Link.faults k }) c.args.links.now c.loop-i.links c.loop-i.arrived.items (record { left = g.N.Nonces.left c.args.nonces.now; faults = g.N.Nonces.faults c.args.nonces.now }) (record { left = g.N.Nonces.left c.loop-i.nonces; faults = g.N.Nonces.faults c.loop-i.nonces }) (record { left = g.N.Nonces.left c.hear.new.nonces; faults = g.N.Nonces.faults c.hear.new.nonces })
    c.loop-i.i c.index-links-i.result c.hear.new.link c.hear.ensures.0 c.hear.result (omega (arith, c.loop-i-test.true, c.loop-i.invariant.long)) c.index-links-i.is c.loop-i.invariant
    (subst (λ o. IsHeard c.hear.ensures.0 (record { told = g.L.Link.told o; faults = g.L.Link.faults o }) (record { told = g.L.Link.told c.hear.new.link; faults = g.L.Link.faults c.hear.new.link }) c.hear.result) (sym c.index-links-i.is) c.hear.ensures.1)
    c.hear.ensures.2)

pub returns-in_err-arrived-clause-broken_off : goal.returns-in_err-arrived-clause-broken_off
returns-in_err-arrived-clause-broken_off g c = any_err c.from_residual.result _ (each_same (map (λ k. record { told = g.L.Link.told k; faults = g.L.Link.faults k }) c.args.links.now))

pub returns-in_err-push-clause-broken_off : goal.returns-in_err-push-clause-broken_off
returns-in_err-push-clause-broken_off g c = any_err c.from_residual-in_err-push.result _
    (hearing_each (λ k. record { told = g.L.Link.told k; faults = g.L.Link.faults k }) c.args.links.now (set c.loop-i.links c.loop-i.i c.hear.new.link) _ (record { left = g.N.Nonces.left c.args.nonces.now; faults = g.N.Nonces.faults c.args.nonces.now }) (record { left = g.N.Nonces.left c.hear.new.nonces; faults = g.N.Nonces.faults c.hear.new.nonces }) _
    (hearing_more (λ k. record { told = g.L.Link.told k; faults = g.L.Link.faults k }) c.args.links.now c.loop-i.links c.loop-i.arrived.items (record { left = g.N.Nonces.left c.args.nonces.now; faults = g.N.Nonces.faults c.args.nonces.now }) (record { left = g.N.Nonces.left c.loop-i.nonces; faults = g.N.Nonces.faults c.loop-i.nonces }) (record { left = g.N.Nonces.left c.hear.new.nonces; faults = g.N.Nonces.faults c.hear.new.nonces })
    c.loop-i.i c.index-links-i.result c.hear.new.link c.hear.ensures.0 c.hear.result (omega (arith, c.loop-i-test.true, c.loop-i.invariant.long)) c.index-links-i.is c.loop-i.invariant
    (subst (λ o. IsHeard c.hear.ensures.0 (record { told = g.L.Link.told o; faults = g.L.Link.faults o }) (record { told = g.L.Link.told c.hear.new.link; faults = g.L.Link.faults c.hear.new.link }) c.hear.result) (sym c.index-links-i.is) c.hear.ensures.1)
    c.hear.ensures.2))
