use Rattle.std.proofs.Common.{◌+◌, ℕ, List, arith}
use Rattle.ots_base.specs.declared.limits.TheConstants.{MAX_REPLY_BODY}
use Rattle.ots_http.specs.ReplyBodyRead.{IsBodyAnswer}
use Rattle.ots_http.proofs.BufferLemmas.{body_read}
use Rattle.ots_http.proofs.reply.read_body.Goals as goal

pub returns-in_ok-at-in-Absent-clause-answer : goal.returns-in_ok-at-in-Absent-clause-answer
returns-in_ok-at-in-Absent-clause-answer g c =
    body_read (λ (body : List ℕ). IsBodyAnswer body c.args.stated c.body_up_to_limit.result) _ _ _ _ _ _ (MAX_REPLY_BODY + 1) c.requires.start (omega arith) (omega (arith, c.in_ok-at-in-Absent.ensures.least))
    c.in_ok-at-in-Absent.ensures.whole (rw c.in-Absent.is c.body_up_to_limit.ensures.body)

pub returns-in_ok-at-in-Length-clause-answer : goal.returns-in_ok-at-in-Length-clause-answer
returns-in_ok-at-in-Length-clause-answer g c =
    body_read (λ (body : List ℕ). IsBodyAnswer body c.args.stated c.body_of_size.result) _ _ _ _ _ _ _ c.requires.start (omega arith) (omega (arith, c.in_ok-at-in-Length.ensures.least))
    c.in_ok-at-in-Length.ensures.whole (rw c.in-Length.is c.body_of_size.ensures.body)

pub returns-in_ok-at-in-Absent-clause-cause : goal.returns-in_ok-at-in-Absent-clause-cause
returns-in_ok-at-in-Absent-clause-cause g c = record { later = c.in_ok-at-in-Absent.ensures.cause.later; rose = λ h. absurd (c.body_up_to_limit.ensures.no_fault h) }

pub returns-in_ok-at-in-Length-clause-cause : goal.returns-in_ok-at-in-Length-clause-cause
returns-in_ok-at-in-Length-clause-cause g c = record { later = c.in_ok-at-in-Length.ensures.cause.later; rose = λ h. absurd (c.body_of_size.ensures.no_fault h) }
