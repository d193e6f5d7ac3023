use Rattle.std.proofs.Common.{◌≡◌, take, map}
use Rattle.ots_round.specs.Round.{leaf}
use Rattle.ots_round.proofs.round.leaf_hashes.Given as goal

abbrev pub invariant-loop-ticket : goal.invariant-loop-ticket
invariant-loop-ticket l = l.hashes.items ≡ take l.ticket-index (map leaf l.tickets)
