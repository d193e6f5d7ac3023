use Rattle.std.proofs.Common.{◌∙◌, sym, arith, lit<}
use Rattle.ots_chain.proofs.PinText.{err_case, height_is, no_text, ok_case}
use Rattle.ots_chain.proofs.pins.height_of.Goals as goal

pub returns-in_err-ok : goal.returns-in_err-ok
returns-in_err-ok c = rw c.from_residual.ensures (λ height high text.
    no_text height c.args.digits.now (omega (arith, high)) (err_case _ _ c.from_utf8.result (sym c.ok.ensures.value ∙ c.in_err-ok.was) c.from_utf8.ensures.cases).1.0 text)

pub returns : goal.returns
returns c =
    height_is 9223372036854775807 c.args.digits.now c.in_ok-ok.field-0.now c.number.result (lit< tt) c.number.ensures.number c.number.ensures.within
    (ok_case _ _ c.from_utf8.result c.in_ok-ok.field-0 (sym c.ok.ensures.value ∙ c.in_ok-ok.was) c.from_utf8.ensures.cases).0
