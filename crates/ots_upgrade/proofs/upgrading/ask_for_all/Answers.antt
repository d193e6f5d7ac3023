use Rattle.std.proofs.Common.{arith, rules}
use Rattle.ots_asking.proofs.Questions.{nothing_asked, on_err}
use Rattle.ots_upgrade.proofs.Pairwise.{all_asked, asks_next, breaks_off_in}
use Rattle.ots_upgrade.specs.Upgrading.{questions}
use Rattle.ots_upgrade.proofs.upgrading.ask_for_all.Goals as goal

pub returns-in_err-outcomes-clause-broken_off : goal.returns-in_err-outcomes-clause-broken_off
returns-in_err-outcomes-clause-broken_off g c =
    on_err c.from_residual.result (nothing_asked g.D.Dialer.told g.D.Dialer.faults (questions c.args.calendars.now c.args.pairs.now) c.args.dialer.now)

pub returns-in_err-ask_for-clause-broken_off : goal.returns-in_err-ask_for-clause-broken_off
returns-in_err-ask_for-clause-broken_off g c =
    on_err c.from_residual-in_err-ask_for.result
    (breaks_off_in g.D.Dialer.told g.D.Dialer.faults c.args.calendars.now c.args.pairs.now c.loop-i.i c.args.dialer.now c.loop-i.dialer c.ask_for.new.dialer _ (omega arith)
    c.loop-i.invariant.asked c.in_err-ask_for.ensures.broken_off)

pub returns-in_err-push-clause-broken_off : goal.returns-in_err-push-clause-broken_off
returns-in_err-push-clause-broken_off g c =
    on_err c.from_residual-in_err-push.result
    (breaks_off_in g.D.Dialer.told g.D.Dialer.faults c.args.calendars.now c.args.pairs.now c.loop-i.i c.args.dialer.now c.loop-i.dialer c.ask_for.new.dialer _ (omega arith)
    c.loop-i.invariant.asked (λ p at. all_asked g.D.Dialer.told g.D.Dialer.faults _ _ _ _ (c.in_ok-ask_for.ensures.asked p at).conversed))

pub loop-i-preserved : goal.loop-i-preserved
loop-i-preserved g c = record {
  one_each = search rules;
  asked =
      asks_next g.D.Dialer.told g.D.Dialer.faults c.args.calendars.now c.args.pairs.now c.loop-i.i c.args.dialer.now c.loop-i.dialer c.ask_for.new.dialer c.loop-i.outcomes.items _
      c.in_ok-ask_for.field-0 (omega arith) c.loop-i.invariant.one_each c.loop-i.invariant.asked c.in_ok-ask_for.ensures.asked c.in_ok-push.ensures.items;
}
