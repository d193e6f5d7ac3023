use Rattle.std.proofs.Common.{ap, arith}
use Rattle.ots_sheet.specs.Request.{RequestParts, request_parts}
use Rattle.ots_archive_counts.proofs.Tallies.{answers_more, request_there, room}
use Rattle.ots_archive_counts.proofs.counting.tally_of.Goals as goal

pub add-requires : goal.add-requires
add-requires c =
    room c.args.replies.now c.loop-at.at c.loop-at.tally c.loop-at.invariant (let test = c.loop-at-test.true in let count = c.len-at-end.ensures.count in omega (arith, test, count))
    (let most = c.len-at-end.type_inv in let count = c.len-at-end.ensures.count in omega (arith, most, count))

pub loop-at-preserved : goal.loop-at-preserved
loop-at-preserved c =
    answers_more c.args.replies.now c.loop-at.at c.loop-at.tally c.add.new.tally c.request.result.url.now c.in_ok-came.came
    (let test = c.loop-at-test.true in let count = c.len-at-end.ensures.count in omega (arith, test, count)) c.loop-at.invariant
    (λ a at. ap (λ (z : RequestParts). z.url) (request_there c.args.replies.now c.loop-at.at (request_parts c.request.result) c.request.ensures a at)) c.in_ok-came.ensures c.in_ok-add.ensures
