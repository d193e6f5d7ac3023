use Rattle.std.proofs.Common.{◌≡◌, ◌-◌, ◌≤◌, length}
use Rattle.ots_sheet.specs.declared.limits.TheConstants.{MAX_LINES}
use Rattle.ots_sheet.specs.Sheet.{lines_text, reply_lines}
use Rattle.ots_replies.specs.inner.Reading.{HasCome}
use Rattle.ots_replies.proofs.reading.read_answers.Given as goal

-- The lines of the answers so far came, and are in the sum.
abbrev pub invariant-loop-sum : goal.invariant-loop-sum
invariant-loop-sum g l = record {
  come : HasCome (g.S.Source.left l.fn.source) (g.S.Source.left l.source) l.lines l.store;
  sums : l.sum ≡ lines_text (reply_lines l.store);
  sizes : l.size ≡ length (lines_text (reply_lines l.store));
  later : g.S.Source.faults l.fn.source ≤ g.S.Source.faults l.source;
  same : g.S.Source.same l.fn.source l.source;
}

-- Each turn takes an answer.
abbrev pub decreases-loop-sum : goal.decreases-loop-sum
decreases-loop-sum g l = MAX_LINES - length l.store
