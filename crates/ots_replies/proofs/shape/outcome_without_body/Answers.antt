use Rattle.std.proofs.Common.{refl}
use Rattle.std.specs.Cmp.Lexicographic.{other_text}
use Rattle.ots_sheet.specs.Reply as parts
use Rattle.ots_replies.proofs.Shapes.{no_status}
use Rattle.ots_replies.proofs.shape.outcome_without_body.Goals as goal

pub returns-in-Some-clause-some : goal.returns-in-Some-clause-some
returns-in-Some-clause-some c =
    let is = c.in-Some.ensures.some in
    record { reply = parts.Status c.in-Some.status; is = is.is; code_is = is.text; body_is = refl; tells = refl }

pub returns-in-None-clause-none : goal.returns-in-None-clause-none
returns-in-None-clause-none c = no_status c.args.code.now (other_text _ _ c.if-eq.ensures) c.in-None.ensures.none
