use Rattle.std.proofs.Common.{ap, ◌∙◌}
use Rattle.ots_http.specs.ReplyTable.{good}
use Rattle.ots_http.proofs.ReplyLemmas.{too_long_is, good_is}
use Rattle.ots_http.proofs.reply.body_up_to_limit.Goals as goal

pub returns-then-bytes-gt-MAX_REPLY_BODY-clause-body : goal.returns-then-bytes-gt-MAX_REPLY_BODY-clause-body
returns-then-bytes-gt-MAX_REPLY_BODY-clause-body c = λ body is. too_long_is body c.args.bytes.now is c.if-bytes-gt-MAX_REPLY_BODY.true

pub returns-clause-body : goal.returns-clause-body
returns-clause-body c = λ body is. ap good (c.from_vec.ensures ∙ c.in_ok-from_slice.ensures.items) ∙ good_is body c.args.bytes.now is c.if-bytes-gt-MAX_REPLY_BODY.false
