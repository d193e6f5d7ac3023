use Rattle.std.proofs.Common.{◌+◌, length, ℕ, IsTrue, subst, sym, ap, ◌∙◌, arith, rules}
use Rattle.sha2.specs.Sha256.{sha256}
use Rattle.ots_replies.specs.inner.Reading.{TakesAnswer, TakesOne}
use Rattle.ots_replies.proofs.Bad.{NoAnswer, NoSum, begins_sum, come_more, line_came, line_is_bad, no_line_bad, not_sum, not_taken, one_size, text_more, too_long}
use Rattle.ots_replies.proofs.Digits.{no_truth}
use Rattle.ots_replies.proofs.reading.read_answers.Goals as goal
use Rattle.ots_replies.proofs.reading.read_answers.Goals.{then-size-gt-MAX_SHEET-via-then-size-gt-MAX_SHEET, then-size-gt-MAX_SHEET-via-else-size-gt-MAX_SHEET+in_ok-take_answer+then-not-branch}

pub returns-then-not-is_line-clause-answers : goal.returns-then-not-is_line-clause-answers
returns-then-not-is_line-clause-answers g c =
    let count = c.len.ensures in
    no_line_bad _ _ _ c.loop-sum.lines c.advance.new.self c.in_ok-advance.field-0 c.loop-sum.store _ c.loop-sum.invariant.come c.in_ok-advance.ensures.step
    (λ is. no_truth (subst IsTrue c.if-not-is_line.true (c.is_line.ensures.1 is))) (omega (arith, count))

pub returns-then-starts_with-clause-answers : goal.returns-then-starts_with-clause-answers
returns-then-starts_with-clause-answers g c =
    let come = c.loop-sum.invariant.come in
    let line = line_came _ _ _ c.loop-sum.lines c.advance.new.self c.in_ok-advance.field-0 c.loop-sum.store come c.in_ok-advance.ensures.step (c.is_line.ensures.0 c.if-not-is_line.false) in
    let begins = begins_sum c.line-line.result.now c.starts_with.result c.starts_with.ensures.value c.if-starts_with.true in
    record {
      came = line.0;
      good = come.good;
      fits = come.fits;
      digest = c.digest-digest.ensures ∙ ap sha256 c.loop-sum.invariant.sums;
      size = c.loop-sum.invariant.sizes;
      no_feed = line.1;
      begins = (begins.0, sym c.line-line.ensures ∙ begins.1);
    }

pub returns-then-size-gt-MAX_SHEET-clause-answers : goal.returns-then-size-gt-MAX_SHEET-clause-answers
returns-then-size-gt-MAX_SHEET-clause-answers g c =
    let come = c.loop-sum.invariant.come in
    let sizes = c.loop-sum.invariant.sizes in
    let count = c.len.ensures in
    let shown = c.line-line.result.now in
    let line = line_came _ _ _ c.loop-sum.lines c.advance.new.self c.in_ok-advance.field-0 c.loop-sum.store come c.in_ok-advance.ensures.step (c.is_line.ensures.0 c.if-not-is_line.false) in
    let none : NoAnswer c.loop-sum.store shown = elim c.then-size-gt-MAX_SHEET.branch [
      | then-size-gt-MAX_SHEET-via-then-size-gt-MAX_SHEET w ↦
          too_long c.loop-sum.store shown _ (ap (λ (n : ℕ). n + (length shown + 1)) sizes) w.if-size-gt-MAX_SHEET.true
      | then-size-gt-MAX_SHEET-via-else-size-gt-MAX_SHEET+in_ok-take_answer+then-not-branch w ↦
          not_taken c.loop-sum.store w.take_answer.new.store shown
          (subst (TakesAnswer c.loop-sum.store w.take_answer.new.store shown) w.if-not-branch.true w.in_ok-take_answer.ensures)
    ] in
    line_is_bad _ _ c.advance.new.self c.loop-sum.store _ line.0 (omega (arith, count)) come.good come.fits line.1
    (subst (NoAnswer c.loop-sum.store) c.line-line.ensures none)
    (subst (NoSum c.loop-sum.store) c.line-line.ensures (not_sum c.loop-sum.store shown c.starts_with.result c.starts_with.ensures.value c.if-starts_with.false))

pub loop-sum-preserved : goal.loop-sum-preserved
loop-sum-preserved g c =
    let come = c.loop-sum.invariant.come in
    let sizes = c.loop-sum.invariant.sizes in
    let shown = c.line-line.result.now in
    let xs = c.loop-sum.store in
    let ys = c.take_answer.new.store in
    let line = line_came _ _ _ c.loop-sum.lines c.advance.new.self c.in_ok-advance.field-0 xs come c.in_ok-advance.ensures.step (c.is_line.ensures.0 c.if-not-is_line.false) in
    let taken : TakesOne xs ys shown = subst (TakesAnswer xs ys shown) c.if-not-branch.false c.in_ok-take_answer.ensures in
    let size = one_size xs ys shown taken in
    let few = c.if-size-gt-MAX_SHEET.false in
    record {
      come = come_more _ _ c.advance.new.self xs ys line.0 (subst (TakesOne xs ys) c.line-line.ensures taken) (omega (arith, size, sizes, few));
      sums = text_more xs ys shown c.loop-sum.sum c.add.new.self c.add-in-loop-sum.new.self taken c.loop-sum.invariant.sums c.add.ensures c.add-in-loop-sum.ensures;
      sizes = omega (arith, size, sizes);
      later = search rules;
      same = search rules;
    }
