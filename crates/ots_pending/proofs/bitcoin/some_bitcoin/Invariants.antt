use Rattle.std.proofs.Common.{◌≡◌, drop}
use Rattle.std.specs.List.{list_any}
use Rattle.ots_pending.specs.Bitcoin.{is_bitcoin}
use Rattle.ots_pending.proofs.bitcoin.some_bitcoin.Given as goal

-- Among the tokens that are left is one exactly where one is among all.
abbrev pub invariant-loop-token : goal.invariant-loop-token
invariant-loop-token l = list_any is_bitcoin (drop l.token-index l.tokens) ≡ list_any is_bitcoin l.tokens
