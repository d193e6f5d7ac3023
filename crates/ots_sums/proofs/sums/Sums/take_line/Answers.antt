use Rattle.std.proofs.Common.{arith}
use Rattle.ots_sums.proofs.sums.Sums.take_line.Goals as goal
use Rattle.ots_sums.proofs.sums.Sums.take_line.Goals.{then-len-eq-MAX_LINES-via-then-len-eq-MAX_LINES, then-len-eq-MAX_LINES-via-else-len-eq-MAX_LINES+then-line-ge-MAX_LINE, then-len-eq-MAX_LINES-via-else-len-eq-MAX_LINES+else-line-ge-MAX_LINE+in_ok-push_line+then-not-branch}

pub returns-then-len-eq-MAX_LINES : goal.returns-then-len-eq-MAX_LINES
returns-then-len-eq-MAX_LINES c = (
  omega (arith, c.len.ensures),
  elim c.then-len-eq-MAX_LINES.branch [
    | then-len-eq-MAX_LINES-via-then-len-eq-MAX_LINES w ↦ λ few e is. absurd (omega (arith, few, w.if-len-eq-MAX_LINES.true, c.len-2.ensures))
    | then-len-eq-MAX_LINES-via-else-len-eq-MAX_LINES+then-line-ge-MAX_LINE w ↦ λ few e is. absurd (let short = is.short in omega (arith, short, w.if-line-ge-MAX_LINE.true))
    | then-len-eq-MAX_LINES-via-else-len-eq-MAX_LINES+else-line-ge-MAX_LINE+in_ok-push_line+then-not-branch w ↦ λ few e is.
        let p = rw w.if-not-branch.true at w.in_ok-push_line.ensures in p.0 e is
  ],
)
