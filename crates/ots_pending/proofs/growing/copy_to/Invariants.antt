use Rattle.std.proofs.Common.{◌≡◌, ◌++◌, take}
use Rattle.ots_pending.proofs.growing.copy_to.Given as goal

-- Those before are copied.
abbrev pub invariant-loop-token : goal.invariant-loop-token
invariant-loop-token l = l.made.items ≡ l.initial.made.items ++ take l.token-index l.tokens
