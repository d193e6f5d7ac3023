use Rattle.std.proofs.Common.{IsTrue, subst, sym, arith, rules}
use Rattle.ots_replies.specs.inner.Reading.{IsEnd}
use Rattle.ots_replies.proofs.Bad.{answers_not_read, line_is_bad, no_memory, not_end, not_read, reads_bad, sheet_follows, sheet_read, sum_not_answer}
use Rattle.ots_replies.proofs.Digits.{no_truth}
use Rattle.ots_replies.proofs.reading.read_replies.Goals as goal

pub returns-in_err-answers-clause-replies : goal.returns-in_err-answers-clause-replies
returns-in_err-answers-clause-replies g c = answers_not_read c.read_answers.new.lines _ (g.S.Source.left c.read_answers.new.source) c.from_residual.result _ c.from_residual.ensures.1 c.in_err-answers.ensures.answers

pub returns-in_err-ends_right-clause-replies : goal.returns-in_err-ends_right-clause-replies
returns-in_err-ends_right-clause-replies g c = no_memory _ c.from_residual-in_err-ends_right.result c.from_residual-in_err-ends_right.ensures.1

pub returns-then-not-branch-clause-replies : goal.returns-then-not-branch-clause-replies
returns-then-not-branch-clause-replies g c =
    let a = c.in_ok-answers.answers in
    let come = c.in_ok-answers.ensures.answers in
    let count = c.len.ensures in
    reads_bad _ _ (line_is_bad _ _ _ a.store _ come.came (omega (arith, count)) come.good come.fits come.no_feed (sum_not_answer a.store _ come.begins.0 come.begins.1)
    (not_end a _ (λ end. no_truth (subst IsTrue c.if-not-branch.true (c.in_ok-ends_right.ensures.1 (subst (IsEnd a) (sym c.line.ensures) end)))) come.size come.digest))

pub returns-in_err-advance-clause-replies : goal.returns-in_err-advance-clause-replies
returns-in_err-advance-clause-replies g c = not_read _ c.from_residual-in_err-advance.result c.from_residual-in_err-advance.ensures.1

pub returns-in-End-clause-replies : goal.returns-in-End-clause-replies
returns-in-End-clause-replies g c =
    let a = c.in_ok-answers.answers in
    let end = subst (IsEnd a) c.line.ensures (c.in_ok-ends_right.ensures.0 c.if-not-branch.false) in
    sheet_read _ _ _ _ c.advance.new.self a c.in_ok-answers.ensures.answers end c.in_ok-advance.field-0 c.in_ok-advance.ensures.step c.in-End.is

pub returns-in_default : goal.returns-in_default
returns-in_default g c =
    let a = c.in_ok-answers.answers in
    let count = c.len.ensures in
    let end = subst (IsEnd a) c.line.ensures (c.in_ok-ends_right.ensures.0 c.if-not-branch.false) in
    record {
      replies = sheet_follows _ _ _ _ c.advance.new.self a c.in_ok-answers.ensures.answers end c.in_ok-advance.field-0 _ c.in_ok-advance.ensures.step c.in_default.not-End (omega (arith, count));
      cause = search rules;
      same = search rules;
    }
