use Rattle.std.proofs.Common.{◌≡◌, map, take}
use Rattle.ots_memory.proofs.conversations.copy_replies.Given as goal

-- The replies up to here are copied.
abbrev pub invariant-loop-reply : goal.invariant-loop-reply
invariant-loop-reply l = l.copies.items ≡ map (λ reply. reply.now) (take l.reply-index l.replies)
