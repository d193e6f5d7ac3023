use Rattle.std.proofs.Common.{arith, subst, List, sym}
use Rattle.ots_sheet.specs.Request.{request_parts}
use Rattle.ots_sheet.specs.Reply.{Answer, reply_parts}
use Rattle.ots_replies.specs.Replies.{HasReply}
use Rattle.ots_replies.proofs.Found.{found, greater_after, less_before, not_found}
use Rattle.ots_replies.proofs.replies.Replies.find.Goals as goal

pub loop-low-preserved-in-Less : goal.loop-low-preserved-in-Less
loop-low-preserved-in-Less c =
    let i = c.loop-low.invariant in
    let within = i.within in
    let test = c.loop-low-test.true in
    record {
      order = omega (arith, test);
      within = within;
      before = less_before c.self.inside.store c.self.invariant (request_parts c.args.request.now) _ (omega (arith, within, test)) _ c.request.ensures c.order.result c.order.ensures c.in-Less.is;
      after = i.after;
    }

pub loop-low-preserved : goal.loop-low-preserved
loop-low-preserved c =
    let i = c.loop-low.invariant in
    let within = i.within in
    let test = c.loop-low-test.true in
    record {
      order = omega (arith, test);
      within = omega (arith, within, test);
      before = i.before;
      after = greater_after c.self.inside.store c.self.invariant (request_parts c.args.request.now) _ (omega (arith, within, test)) _ c.request.ensures c.order.result c.order.ensures c.in-Greater.is;
    }

pub returns-in-Equal-clause-some : goal.returns-in-Equal-clause-some
returns-in-Equal-clause-some c =
    let within = c.loop-low.invariant.within in
    let test = c.loop-low-test.true in
    subst (λ (z : List Answer). HasReply z (request_parts c.args.request.now) (reply_parts c.reply.result)) c.self.view_is
    (found c.self.inside.store c.self.invariant (request_parts c.args.request.now) _ (omega (arith, within, test)) _ c.request.ensures c.order.result
    (reply_parts c.reply.result) c.order.ensures c.in-Equal.is c.reply.ensures)

pub returns-clause-none : goal.returns-clause-none
returns-clause-none c reply h =
    let i = c.loop-low.invariant in
    not_found c.self.inside.store (request_parts c.args.request.now) reply c.loop-low.low c.loop-low.high (let test = c.loop-low-test.false in omega (arith, test)) i.before i.after
    (subst (λ (z : List Answer). HasReply z (request_parts c.args.request.now) reply) (sym c.self.view_is) h)
