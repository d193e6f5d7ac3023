use Rattle.std.proofs.Common.{◌≡◌, ◌∙◌, ◌+◌, sym, arith, rules, true≢false}
use Rattle.ots_line_reader.specs.declared.reader.Found.TheVariants as found
use Rattle.ots_sums.proofs.LineByLine.{ended, line_bad, line_taken, none_found, not_read}
use Rattle.ots_sums.proofs.reading.read_sums.Goals as goal
use Rattle.ots_sums.proofs.reading.read_sums.Goals.{in_default-via-in-End+else-not-is_empty, in_default-via-in_default}

pub returns-in_err-advance-clause-sums : goal.returns-in_err-advance-clause-sums
returns-in_err-advance-clause-sums g c = not_read (g.S.Source.left c.args.source.now) c.from_residual.result c.from_residual.ensures.1

pub returns-in_err-take_line-in-Line-clause-sums : goal.returns-in_err-take_line-in-Line-clause-sums
returns-in_err-take_line-in-Line-clause-sums g c =
    line_bad _ _ _ c.loop-sums.sums c.loop-sums.reader c.advance.new.self c.loop-sums.invariant.came (rw c.in-Line.is at c.in_ok-advance.ensures.step) c.take_line.new.self c.line.result.now
    c.line.ensures c.in_err-take_line-in-Line.field-0.0 c.in_err-take_line-in-Line.ensures c.from_residual-in_err-take_line-in-Line.result c.from_residual-in_err-take_line-in-Line.ensures.1

pub loop-sums-preserved : goal.loop-sums-preserved
loop-sums-preserved g c = record {
  came = line_taken _ _ _ c.loop-sums.sums c.loop-sums.reader c.advance.new.self c.loop-sums.invariant.came (rw c.in-Line.is at c.in_ok-advance.ensures.step) c.take_line.new.self
      c.in_ok-take_line-in-Line.field-0 c.line.result.now c.line.ensures c.in_ok-take_line-in-Line.ensures;
  later = search rules;
  same = search rules;
}

pub returns-in-End-clause-sums : goal.returns-in-End-clause-sums
returns-in-End-clause-sums g c =
    ended _ _ _ c.loop-sums.sums c.loop-sums.reader c.advance.new.self c.loop-sums.invariant.came (rw c.in-End.is at c.in_ok-advance.ensures.step)
    (λ none. true≢false (sym (c.is_empty.ensures.1 none) ∙ c.if-not-is_empty.true))

pub returns-in_default-clause-sums : goal.returns-in_default-clause-sums
returns-in_default-clause-sums g c =
    none_found _ _ _ c.loop-sums.sums c.loop-sums.reader c.advance.new.self c.loop-sums.invariant.came c.in_ok-advance.field-0 c.in_ok-advance.ensures.step
    (elim c.in_default.branch [
      | in_default-via-in-End+else-not-is_empty w ↦ λ line. let clash : found.End ≡ found.Line = sym w.in-End.is ∙ line in absurd cc
      | in_default-via-in_default w ↦ w.in_default.not-Line
    ])
    (elim c.in_default.branch [
      | in_default-via-in-End+else-not-is_empty w ↦ λ end. w.is_empty.ensures.0 w.if-not-is_empty.false
      | in_default-via-in_default w ↦ λ end. absurd (w.in_default.not-End end)
    ])
    (c.len.result + 1) (omega (arith, c.len.ensures))
