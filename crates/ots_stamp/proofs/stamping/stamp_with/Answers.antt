use Rattle.std.proofs.Common.{◌+◌, ◌∷◌, [], List, map, take, drop, sym, subst, inr}
use Rattle.ots_asking.specs.Conversation.{ConverseUpTo, Question}
use Rattle.ots_asking.proofs.Questions.{any_rest, breaks_off_later, nothing_asked, on_err, one_more, split_at, up_to}
use Rattle.ots_stamp.specs.Stamping.{to_stamp}
use Rattle.ots_stamp.proofs.stamping.stamp_with.Goals as goal
use Rattle.ots_tree.proofs.Closing.{all-append}

-- src/stamping.rt:30:24
pub returns-in_err-outcomes-clause-broken_off : goal.returns-in_err-outcomes-clause-broken_off
returns-in_err-outcomes-clause-broken_off g c =
    on_err c.from_residual.result (nothing_asked _ _ (map (to_stamp c.args.root.now c.args.depth) c.args.calendars.now) c.args.dialer.now)

-- src/stamping.rt:37:23
pub returns-in_err-outcome-clause-broken_off : goal.returns-in_err-outcome-clause-broken_off
returns-in_err-outcome-clause-broken_off g c =
    let told = g.D.Dialer.told in
    let faults = g.D.Dialer.faults in
    let ask = to_stamp c.args.root.now c.args.depth in
    let i = c.loop-address.address-index in
    let asked = c.args.calendars.now in
    on_err c.from_residual-in_err-outcome.result
    (subst (λ (questions : List Question). ConverseUpTo told faults questions c.args.dialer.now c.ask_to_stamp.new.dialer)
    (sym (split_at ask asked i c.address-item.result c.loop-address-test.true c.address-item.is))
    (breaks_off_later told faults (take i (map ask asked)) (ask c.address-item.result ∷ drop (i + 1) (map ask asked)) _ _ _ _ c.loop-address.invariant.so_far
    (any_rest told faults (ask c.address-item.result) (drop (i + 1) (map ask asked)) _ _ c.in_err-outcome.ensures.broken_off)))

-- src/stamping.rt:38:9
pub returns-in_err-push-clause-broken_off : goal.returns-in_err-push-clause-broken_off
returns-in_err-push-clause-broken_off g c =
    let told = g.D.Dialer.told in
    let faults = g.D.Dialer.faults in
    let ask = to_stamp c.args.root.now c.args.depth in
    let i = c.loop-address.address-index in
    let asked = c.args.calendars.now in
    on_err c.from_residual-in_err-push.result
    (subst (λ (questions : List Question). ConverseUpTo told faults questions c.args.dialer.now c.ask_to_stamp.new.dialer)
    (sym (split_at ask asked i c.address-item.result c.loop-address-test.true c.address-item.is))
    (breaks_off_later told faults (take i (map ask asked)) (ask c.address-item.result ∷ drop (i + 1) (map ask asked)) _ _ _ _ c.loop-address.invariant.so_far
    (inr (inr (c.ask_to_stamp.new.dialer, c.in_ok-outcome.outcome, c.in_ok-outcome.ensures.asked, nothing_asked told faults (drop (i + 1) (map ask asked)) c.ask_to_stamp.new.dialer)))))

-- src/stamping.rt:36:5
pub loop-address-preserved : goal.loop-address-preserved
loop-address-preserved g c = record {
  so_far =
      let told = g.D.Dialer.told in
      let faults = g.D.Dialer.faults in
      let ask = to_stamp c.args.root.now c.args.depth in
      let i = c.loop-address.address-index in
      rw (up_to ask c.args.calendars.now i c.address-item.result c.loop-address-test.true c.address-item.is, c.in_ok-push.ensures.items)
      (one_more told faults (take i (map ask c.args.calendars.now)) (ask c.address-item.result) _ _ _ c.loop-address.outcomes.items _
      c.loop-address.invariant.so_far c.in_ok-outcome.ensures.asked);
  sound = rw c.in_ok-push.ensures.items (all-append _ c.loop-address.outcomes.items (c.in_ok-outcome.outcome ∷ []) c.loop-address.invariant.sound (c.in_ok-outcome.ensures.sound, tt));
}
