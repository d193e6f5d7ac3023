use Rattle.std.proofs.Common.{refl, arith}
use Rattle.std.proofs.lemmas.Grind.{common_steps}
use Rattle.ots_memory.proofs.Dialed.{connected_below, entry_stays, reads, same_but, stays_open}
use Rattle.ots_memory.proofs.script_dialer.ScriptDialerDialer.read.Goals as goal

pub returns-clause-bytes : goal.returns-clause-bytes
returns-clause-bytes c =
    let cs = c.args.self.now.conversations.items in
    reads cs c.args.slot.0 _ c.index_mut.result.now _ c.in-Some.reply c.read.new.self _ (connected_below cs _ _ c.requires)
    c.index_mut.ensures.value c.in-Some.is refl (grind (arith, common_steps)) c.read.ensures.gives

pub returns-clause-open : goal.returns-clause-open
returns-clause-open c =
    let cs = c.args.self.now.conversations.items in
    stays_open cs c.args.slot.0 _ c.read.new.self (connected_below cs _ _ c.requires) refl

pub returns-clause-entry : goal.returns-clause-entry
returns-clause-entry c = entry_stays c.args.self.now.conversations.items c.args.slot.0 _ c.read.new.self c.requires refl

pub returns-clause-others : goal.returns-clause-others
returns-clause-others c =
    same_but c.args.self.now.replies.items c.args.self.now.conversations.items c.args.slot.0 c.index_mut.result.now _ c.index_mut.ensures.value refl
