use Rattle.std.proofs.Common.{◌≡◌, ◌++◌, length, ap, Some, refl, sym, ◌∙◌, arith}
use Rattle.std.proofs.lemmas.Grind.{common_steps}
use Rattle.ots_memory.specs.Conversations.{connection}
use Rattle.ots_memory.proofs.Dialed.{held_is, reply-set_alike, sends}
use Rattle.ots_memory.proofs.script_dialer.ScriptDialerDialer.write.Goals as goal

pub returns-clause-bytes : goal.returns-clause-bytes
returns-clause-bytes c =
    let grew : c.extend_from_slice.new.self.items ≡ c.index_mut.result.now.sent.items ++ c.args.piece.now = grind (arith, common_steps) in
    ap Some (sends c.args.self.now.conversations.items c.args.slot.0 c.index_mut.result.now _ c.args.piece.now c.requires c.index_mut.ensures.value refl refl grew)

pub returns-clause-others : goal.returns-clause-others
returns-clause-others c =
    let cs = c.args.self.now.conversations.items in
    record { replies = refl; slots = λ k. ap (connection k) (reply-set_alike cs c.args.slot.0 c.index_mut.result.now _ k c.index_mut.ensures.value refl) }

pub returns-then-is_append_refused-clause-failed : goal.returns-then-is_append_refused-clause-failed
returns-then-is_append_refused-clause-failed c =
    let held : c.len-held.result ≡ length c.index.result.now.sent.items = grind (arith, common_steps) in
    rw (held_is c.args.self.now.conversations.items c.args.slot.0 c.index.result.now c.requires c.index.ensures, ← held, ← c.count-listed.ensures.listed)
    (sym c.if-is_append_refused.true ∙ c.is_append_refused.ensures.refused)

pub returns-clause-failed : goal.returns-clause-failed
returns-clause-failed c =
    let held : c.len-held.result ≡ length c.index.result.now.sent.items = grind (arith, common_steps) in
    rw (held_is c.args.self.now.conversations.items c.args.slot.0 c.index.result.now c.requires c.index.ensures, ← held, ← c.count-listed.ensures.listed)
    (sym c.if-is_append_refused.false ∙ c.is_append_refused.ensures.refused)
