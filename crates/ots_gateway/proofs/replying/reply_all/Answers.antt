use Rattle.std.proofs.Common.{◌∙◌, ◌+◌, List, map, arith, set, sym, subst, refl}
use Rattle.std.proofs.lemmas.List.{length-set}
use Rattle.ots_gateway.specs.Arrived.{IsHeard}
use Rattle.ots_gateway.specs.Round.{EachMayServe}
use Rattle.ots_gateway.specs.declared.served.GateServed.{GateServed}
use Rattle.ots_gateway.proofs.Arriving.{any_err, heard_each}
use Rattle.ots_gateway.proofs.Replied.{Replying, keeps_fewer, replied, replying_each, replying_none, replying_step, set_seen, waiting_few, waiting_next, waiting_up_to}
use Rattle.ots_gateway.proofs.replying.reply_all.Goals as goal

pub returns-in_err-served-clause-broken_off : goal.returns-in_err-served-clause-broken_off
returns-in_err-served-clause-broken_off g c = λ heard olds given all answer. any_err c.from_residual.result _ (heard_each heard olds (map (λ k. record { told = g.L.Link.told k; faults = g.L.Link.faults k }) c.args.links.now) c.args.arrived.now all)

pub loop-i-init : goal.loop-i-init
loop-i-init g c = record {
  replying = λ heard olds given all answer. subst (λ (ss : List GateServed). Replying (λ k. record { told = g.L.Link.told k; faults = g.L.Link.faults k }) heard olds c.args.links.now c.args.links.now ss given 0 0) (sym c.in_ok-served.ensures.items)
      (replying_none (λ k. record { told = g.L.Link.told k; faults = g.L.Link.faults k }) heard olds c.args.links.now given);
  place_is = refl;
  long = refl;
}

pub serve-requires-clause-answer : goal.serve-requires-clause-answer
serve-requires-clause-answer g c =
    let next = waiting_next c.args.arrived.now c.loop-i.i c.index-arrived-i.result (omega (arith, c.loop-i-test.true, c.requires.links)) c.index-arrived-i.is in
    let up = waiting_up_to c.args.arrived.now (c.loop-i.i + 1) in
    keeps_fewer c.args.answer.now _ _ (omega (arith, c.loop-i.invariant.place_is, next, up)) c.requires.answer

pub serve-requires-clause-few : goal.serve-requires-clause-few
serve-requires-clause-few g c =
    let up = waiting_up_to c.args.arrived.now c.loop-i.i in
    let all = waiting_few c.args.arrived.now in
    omega (arith, c.loop-i.invariant.place_is, up, all, c.requires.links, c.requires.few)

pub returns-in_err-one-clause-broken_off : goal.returns-in_err-one-clause-broken_off
returns-in_err-one-clause-broken_off g c = λ heard olds given all answer. any_err c.from_residual-in_err-one.result _
    (subst (EachMayServe olds) (sym (set_seen (λ k. record { told = g.L.Link.told k; faults = g.L.Link.faults k }) c.loop-i.links c.loop-i.i c.index-links-i.result c.serve.new.link (omega (arith, c.loop-i-test.true, c.loop-i.invariant.long))
    (λ i. record { told = c.in_err-one.ensures.nothing.0 i; faults = c.in_err-one.ensures.nothing.1 i })))
    (replying_each (λ k. record { told = g.L.Link.told k; faults = g.L.Link.faults k }) heard olds c.args.links.now c.loop-i.links c.loop-i.served.items given c.loop-i.place c.loop-i.i c.args.arrived.now all
    (c.loop-i.invariant.replying heard olds given all answer)))

pub returns-in_err-push-clause-broken_off : goal.returns-in_err-push-clause-broken_off
returns-in_err-push-clause-broken_off g c = λ heard olds given all answer. any_err c.from_residual-in_err-push.result _
    (replying_each (λ k. record { told = g.L.Link.told k; faults = g.L.Link.faults k }) heard olds c.args.links.now (set c.loop-i.links c.loop-i.i c.serve.new.link) _ given c.in_ok-one.next (c.loop-i.i + 1) c.args.arrived.now all
    (replying_step (λ k. record { told = g.L.Link.told k; faults = g.L.Link.faults k }) heard olds c.args.links.now c.loop-i.links c.loop-i.served.items given c.loop-i.place c.in_ok-one.next c.loop-i.i
    c.index-links-i.result c.serve.new.link c.args.arrived.now c.index-arrived-i.result c.in_ok-one.one all (omega (arith, c.loop-i-test.true)) c.requires.links
    c.index-links-i.is c.index-arrived-i.is
    (λ h old is. c.in_ok-one.ensures.served h old given (subst (λ y. IsHeard h old (record { told = g.L.Link.told y; faults = g.L.Link.faults y }) c.index-arrived-i.result) c.index-links-i.is is) answer)
    (c.loop-i.invariant.replying heard olds given all answer)))

pub loop-i-preserved : goal.loop-i-preserved
loop-i-preserved g c = record {
  replying = λ heard olds given all answer.
      subst (λ (ss : List GateServed). Replying (λ k. record { told = g.L.Link.told k; faults = g.L.Link.faults k }) heard olds c.args.links.now (set c.loop-i.links c.loop-i.i c.serve.new.link) ss given c.in_ok-one.next (c.loop-i.i + 1)) (sym c.in_ok-push.ensures.items)
      (replying_step (λ k. record { told = g.L.Link.told k; faults = g.L.Link.faults k }) heard olds c.args.links.now c.loop-i.links c.loop-i.served.items given c.loop-i.place c.in_ok-one.next c.loop-i.i
      c.index-links-i.result c.serve.new.link c.args.arrived.now c.index-arrived-i.result c.in_ok-one.one all (omega (arith, c.loop-i-test.true)) c.requires.links
      c.index-links-i.is c.index-arrived-i.is
      (λ h old is. c.in_ok-one.ensures.served h old given (subst (λ y. IsHeard h old (record { told = g.L.Link.told y; faults = g.L.Link.faults y }) c.index-arrived-i.result) c.index-links-i.is is) answer)
      (c.loop-i.invariant.replying heard olds given all answer));
  place_is =
      let next = waiting_next c.args.arrived.now c.loop-i.i c.index-arrived-i.result (omega (arith, c.loop-i-test.true, c.requires.links)) c.index-arrived-i.is in
      omega (arith, c.in_ok-one.ensures.place, c.loop-i.invariant.place_is, next);
  long = length-set c.loop-i.links c.loop-i.i c.serve.new.link ∙ c.loop-i.invariant.long;
}

pub returns-clause-served : goal.returns-clause-served
returns-clause-served g c = λ heard olds given all answer.
    replied (λ k. record { told = g.L.Link.told k; faults = g.L.Link.faults k }) heard olds c.args.links.now c.loop-i.links c.loop-i.served.items given c.loop-i.place c.loop-i.i c.args.arrived.now all
    (omega (arith, c.loop-i-test.false, c.requires.links)) (omega (arith, c.loop-i-test.false, c.loop-i.invariant.long)) (c.loop-i.invariant.replying heard olds given all answer)
