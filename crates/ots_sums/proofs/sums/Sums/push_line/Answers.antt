use Rattle.std.proofs.Common.{true, false, refl}
use Rattle.ots_sums.specs.Sums.{IsSumLine}
use Rattle.ots_sums.specs.inner.Parts.{IsText}
use Rattle.ots_sums.proofs.Keeping.{pushes_as}
use Rattle.ots_sums.proofs.SumForm.{as_line, marked_text, plain_text}
use Rattle.ots_sums.proofs.sums.Sums.push_line.Goals as goal

pub returns-in-Some : goal.returns-in-Some
returns-in-Some c =
    let line = c.args.line.now in
    let text = c.in-Some.text.now in
    pushes_as (IsText text true) (IsSumLine line) c.args.self.now c.push_text.new.self c.push_text.result (λ e is. as_line line e text true c.in-Some.ensures c.requires is)
    (λ e is. marked_text line e text c.in-Some.ensures is) c.push_text.ensures

pub returns-in-None : goal.returns-in-None
returns-in-None c =
    let line = c.args.line.now in
    pushes_as (IsText line false) (IsSumLine line) c.args.self.now c.push_text-in-None.new.self c.push_text-in-None.result (λ e is. as_line line e line false refl c.requires is)
    (λ e is. plain_text line e c.in-None.ensures is) c.push_text-in-None.ensures
