use Rattle.std.proofs.Common.{◌≡◌, List, length, inr, ap, subst, sym, rules, ◌∙◌}
use Rattle.std.proofs.lemmas.List.{length-map}
use Rattle.std.specs.Prelude.{IfOk}
use Rattle.ots_stamp.specs.declared.target.Target.{Target}
use Rattle.ots_client_endings.specs.Runs.{Finishes, at}
use Rattle.ots_stamping.proofs.Submitted.{all_asked, as_many_heard, finishes_as}
use Rattle.ots_stamping.specs.Answered.{AnswersTo, EndsStamping, Submits}
use Rattle.ots_stamping.proofs.submitting.submit.Goals as goal

pub write_answers-requires-clause-each : goal.write_answers-requires-clause-each
write_answers-requires-clause-each g c =
    as_many_heard g.D.Dialer.told g.D.Dialer.faults _ _ _ c.in_ok-outcomes.outcomes.items c.in_ok-outcomes.ensures.asked.2
    ∙ length-map c.deref.result.now _ ∙ ap length (search rules)

pub returns-clause-asks : goal.returns-clause-asks
returns-clause-asks g c =
    let x = c.in_ok-outcomes.ensures.asked in
    let calendars : c.deref.result.now ≡ c.args.submission.calendars.items = search rules in
    inr (subst (λ (z : List Target). Submits g.D.Dialer.told g.D.Dialer.faults c.args.submission z c.args.dialer.now c.ask.new.dialer) c.in_ok-batch.ensures
    (record { depth = x.0; depth_is = x.1; asks = rw (sym calendars) (all_asked g.D.Dialer.told g.D.Dialer.faults _ _ _ _ x.2) }))

pub returns-clause-finishes : goal.returns-clause-finishes
returns-clause-finishes g c =
    let x = c.in_ok-outcomes.ensures.asked in
    let calendars : c.deref.result.now ≡ c.args.submission.calendars.items = search rules in
    subst (λ (z : List Target). IfOk c.write_answers.result (Finishes (AnswersTo g.D.Dialer.told g.D.Dialer.faults c.args.submission z c.args.dialer.now c.ask.new.dialer)
    (at g.S.Shelf.told g.S.Shelf.faults g.K.Sink.taken g.K.Sink.faults c.args.shelf.now c.args.out.now)
    (at g.S.Shelf.told g.S.Shelf.faults g.K.Sink.taken g.K.Sink.faults c.write_answers.new.shelf c.write_answers.new.out))) c.in_ok-batch.ensures
    (finishes_as (EndsStamping c.args.submission c.in_ok-batch.batch c.in_ok-outcomes.outcomes.items)
    (AnswersTo g.D.Dialer.told g.D.Dialer.faults c.args.submission c.in_ok-batch.batch c.args.dialer.now c.ask.new.dialer) _ _ c.write_answers.result
    (λ e h. record { depth = x.0; depth_is = x.1; outcomes = c.in_ok-outcomes.outcomes.items; conversed = rw (sym calendars) x.2; ends = h }) c.write_answers.ensures.finishes)
