use Rattle.ots_sheet.specs.Request.{request_parts}
use Rattle.ots_sheet.specs.Reply.{Body, reply_parts}
use Rattle.ots_archive_taken.proofs.Giving.{given_by}
use Rattle.ots_archive_taken.proofs.given.tree_given.Goals as goal

pub returns-in-Some : goal.returns-in-Some
returns-in-Some c =
    given_by c.args.replies.now c.len-good.ensures.answers (request_parts c.args.request.now) c.args.depth (reply_parts c.in-Some.reply) c.in-Some.ensures.some c.tree_of_reply.result
    c.tree_of_reply.ensures

pub returns-in-None : goal.returns-in-None
returns-in-None c = λ tree gives. c.in-None.ensures.none (Body gives.body) gives.reply
