use Rattle.std.proofs.Common.{◌+◌}
use Rattle.ots_base.specs.declared.limits.TheConstants.{MAX_REPLY_BODY}
use Rattle.ots_http.specs.declared.limits.TheConstants.{MAX_HEAD}
use Rattle.ots_http.proofs.LinkLemmas.{at_most_both}
use Rattle.ots_http.proofs.ReplyLemmas.{found_status, found_body, no_reply}
use Rattle.ots_http.proofs.reply.read_reply.Goals as goal

pub returns-then-head-ne200-clause-answer : goal.returns-then-head-ne200-clause-answer
returns-then-head-ne200-clause-answer g c =
    found_status _ _ _ _ _ _ (rw c.in-Head.is at c.in_ok-read_head.ensures.head) c.read_head.auto.fields c.if-head-ne200.true

pub returns-else-head-ne200-clause-answer : goal.returns-else-head-ne200-clause-answer
returns-else-head-ne200-clause-answer g c =
    found_body _ _ _ _ _ _ _ _ (rw c.in-Head.is at c.in_ok-read_head.ensures.head) c.read_head.auto.fields c.if-head-ne200.false c.body_length-stated.ensures.stated c.read_body.ensures.answer

pub returns-else-head-ne200-clause-came : goal.returns-else-head-ne200-clause-came
returns-else-head-ne200-clause-came g c = at_most_both MAX_HEAD (MAX_REPLY_BODY + 1) _ _ _ c.read_head.ensures.came c.read_body.ensures.came

pub returns-in-NoHead-clause-answer : goal.returns-in-NoHead-clause-answer
returns-in-NoHead-clause-answer g c = no_reply _ _ _ _ _ c.in-NoHead.is c.in_ok-read_head.ensures.head
