use Rattle.std.proofs.Common.{◌∙◌, sym, arith, lit<, ap}
use Rattle.std.specs.Prelude.{decimal}
use Rattle.std.proofs.lemmas.Fmt.{decimal_injective}
use Rattle.ots_calendar_url.proofs.Numbers.{no_text, number_read}
use Rattle.ots_replies.proofs.Shapes.{err_case, ok_case}
use Rattle.ots_replies.proofs.shape.status_of.Goals as goal

pub returns-in_err-word-clause-none : goal.returns-in_err-word-clause-none
returns-in_err-word-clause-none c = rw c.from_residual.ensures (λ status is.
    let high = is.is.1 in
    no_text status c.args.code.now (omega (arith, high)) (err_case _ _ c.from_utf8.result (sym c.ok.ensures.value ∙ c.in_err-word.was) c.from_utf8.ensures.cases).1.0 is.text)

pub returns-in-Some-eq200-clause-none : goal.returns-in-Some-eq200-clause-none
returns-in-Some-eq200-clause-none c status is =
    let word = (ok_case _ _ c.from_utf8.result c.in_ok-word.word (sym c.ok.ensures.value ∙ c.in_ok-word.was) c.from_utf8.ensures.cases).0 in
    let text = number_read 100 599 c.in_ok-word.word.now _ (lit< tt) c.in-Some-eq200.ensures.number in
    let most = is.is.1 in
    is.is.2 (decimal_injective status 200 (omega (arith, most)) (lit< tt)
    (sym is.text ∙ sym word ∙ text ∙ ap decimal c.in-Some-eq200.field-0-test))

pub returns-in-Some-clause-some : goal.returns-in-Some-clause-some
returns-in-Some-clause-some c =
    let word = (ok_case _ _ c.from_utf8.result c.in_ok-word.word (sym c.ok.ensures.value ∙ c.in_ok-word.was) c.from_utf8.ensures.cases).0 in
    let within = c.in-Some.ensures.within in
    record {
      text = sym word ∙ number_read 100 599 c.in_ok-word.word.now _ (lit< tt) c.in-Some.ensures.number;
      is = (within.0, within.1, c.in-Some.status-test.1);
    }

pub returns-in-None-clause-none : goal.returns-in-None-clause-none
returns-in-None-clause-none c status is =
    let word = (ok_case _ _ c.from_utf8.result c.in_ok-word.word (sym c.ok.ensures.value ∙ c.in_ok-word.was) c.from_utf8.ensures.cases).0 in
    number_read 100 599 c.in_ok-word.word.now _ (lit< tt) c.in-None.ensures.number status is.is.0 is.is.1 (word ∙ is.text)
