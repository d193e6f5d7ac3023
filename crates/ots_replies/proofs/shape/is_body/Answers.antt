use Rattle.std.proofs.Common.{arith}
use Rattle.ots_replies.proofs.Shapes.{body_is, body_not}
use Rattle.ots_replies.proofs.shape.is_body.Goals as goal
use Rattle.ots_replies.proofs.shape.is_body.Goals.{then-count-eq0-via-then-count-eq0, then-count-eq0-via-else-count-eq0+then-count-gt-MAX_REPLY_BODY}

pub returns : goal.returns
returns c = body_is c.args.digits.now c.is_hex.result (omega arith) (omega arith) c.is_hex.ensures

pub returns-then-count-eq0 : goal.returns-then-count-eq0
returns-then-count-eq0 c = body_not c.args.digits.now (λ least most. elim c.then-count-eq0.branch [
  | then-count-eq0-via-then-count-eq0 w ↦ let k = w.if-count-eq0.true in omega (arith, k, least)
  | then-count-eq0-via-else-count-eq0+then-count-gt-MAX_REPLY_BODY w ↦ let k = w.if-count-gt-MAX_REPLY_BODY.true in omega (arith, k, most)
])
