use Rattle.std.proofs.Common.{◌≡◌, ◌<◌, length, get_or, ap, refl, arith}
use Rattle.std.proofs.lemmas.Grind.{common_steps}
use Rattle.ots_memory.specs.Conversations.{connection}
use Rattle.ots_memory.proofs.Dialed.{reply-set_same, same_but}
use Rattle.ots_memory.proofs.script_dialer.ScriptDialerDialer.close.Goals as goal

pub returns-in-Some-clause-closed : goal.returns-in-Some-clause-closed
returns-in-Some-clause-closed c =
    let below : c.args.slot.0 < length c.args.self.now.conversations.items = grind (arith, common_steps) in
    ap (connection c.args.slot.0) (reply-set_same c.args.self.now.conversations.items c.args.slot.0 _ below)

pub returns-in-Some-clause-others : goal.returns-in-Some-clause-others
returns-in-Some-clause-others c =
    let s = c.args.self.now in
    let here : c.in-Some.conversation.now ≡ get_or s.conversations.items c.args.slot.0 c.in-Some.conversation.now = grind (arith, common_steps) in
    same_but s.replies.items s.conversations.items c.args.slot.0 c.in-Some.conversation.now _ here refl
