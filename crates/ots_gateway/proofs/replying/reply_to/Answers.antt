use Rattle.std.proofs.Common.{◌∙◌, subst}
use Rattle.ots_http.specs.Seen.{LinkSeen}
use Rattle.ots_http.specs.declared.replying.Reply.{Reply}
use Rattle.ots_gateway.specs.Answer.{IsAnswer}
use Rattle.ots_gateway.specs.Round.{Sends}
use Rattle.ots_gateway.proofs.Due.{due_none, due_some}
use Rattle.ots_gateway.proofs.replying.reply_to.Goals as goal
use Rattle.ots_gateway.proofs.replying.reply_to.Goals.{in-Some+in_ok-tree_of-in-Some, in-None}

pub returns-clause-sends : goal.returns-clause-sends
returns-clause-sends g c = λ given is.
    let old : LinkSeen = record { told = g.L.Link.told c.args.link.now; faults = g.L.Link.faults c.args.link.now } in
    let new : LinkSeen = record { told = g.L.Link.told c.send.new.link; faults = g.L.Link.faults c.send.new.link } in
    elim c.match-answer.branch [
      | in-Some+in_ok-tree_of-in-Some w ↦ subst (λ (r : Reply). Sends r old new c.send.result)
          (w.reply-is ∙ due_some given w.in-Some.answer c.args.place c.args.waiting.now w.in_ok-tree_of-in-Some.field-0 (subst (IsAnswer given) w.in-Some.is is) w.in_ok-tree_of-in-Some.ensures)
          c.send.ensures.sends
      | in-None w ↦ subst (λ (r : Reply). Sends r old new c.send.result)
          (w.reply-is ∙ due_none given c.args.place c.args.waiting.now (subst (IsAnswer given) w.in-None.is is)) c.send.ensures.sends
    ]
