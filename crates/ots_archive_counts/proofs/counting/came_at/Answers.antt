use Rattle.std.proofs.Common.{arith, refl}
use Rattle.ots_sheet.specs.Reply.{reply_parts}
use Rattle.ots_sheet.specs.Request.{request_parts}
use Rattle.ots_archive_counts.proofs.Tallies.{came_there, message_bounds}
use Rattle.ots_archive_counts.proofs.counting.came_at.Goals as goal

pub overflow_cast-length : goal.overflow_cast-length
overflow_cast-length c =
    let b = message_bounds c.args.replies.now c.args.at (request_parts c.request.result) c.len-good.ensures.answers c.requires c.request.ensures in
    let most = b.1 in omega (arith, most)

pub came_of-requires-clause-least : goal.came_of-requires-clause-least
came_of-requires-clause-least c =
    (message_bounds c.args.replies.now c.args.at (request_parts c.request.result) c.len-good.ensures.answers c.requires c.request.ensures).0

pub came_of-requires-clause-greatest : goal.came_of-requires-clause-greatest
came_of-requires-clause-greatest c =
    (message_bounds c.args.replies.now c.args.at (request_parts c.request.result) c.len-good.ensures.answers c.requires c.request.ensures).1

pub returns : goal.returns
returns c =
    came_there c.args.replies.now c.args.at _ (request_parts c.request.result) (reply_parts c.reply.result) c.came_of.result refl c.request.ensures c.reply.ensures c.came_of.ensures
