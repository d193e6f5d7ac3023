use Rattle.std.proofs.Common.{IsTrue, subst}
use Rattle.std.specs.Cmp.Lexicographic.{other_text, same_text}
use Rattle.ots_sheet.specs.Reply as parts
use Rattle.ots_replies.proofs.Digits.{no_truth}
use Rattle.ots_replies.proofs.Shapes.{no_body}
use Rattle.ots_replies.proofs.shape.outcome_of.Goals as goal
use Rattle.ots_replies.proofs.shape.outcome_of.Goals.{else-eq-2-via-then-eq-2+else-is_body, else-eq-2-via-else-eq-2}

pub returns-then-is_body-clause-some : goal.returns-then-is_body-clause-some
returns-then-is_body-clause-some c =
    let b = c.is_body.ensures.0 c.if-is_body.true in
    record { reply = parts.Body b.hex.bytes; is = b.is; code_is = same_text _ _ c.if-eq-2.ensures; body_is = b.hex.text; tells = b.hex.text }

pub returns-clause-none : goal.returns-clause-none
returns-clause-none c = no_body c.args.code.now c.args.body.now (other_text _ _ c.if-eq.ensures) (λ same body. elim c.else-eq-2.branch [
  | else-eq-2-via-then-eq-2+else-is_body w ↦ no_truth (subst IsTrue w.if-is_body.false (w.is_body.ensures.1 body))
  | else-eq-2-via-else-eq-2 w ↦ other_text _ _ w.if-eq-2.ensures same
])
