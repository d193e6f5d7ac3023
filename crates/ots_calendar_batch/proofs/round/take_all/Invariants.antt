use Rattle.std.proofs.Common.{◌≡◌, ◌++◌, length, map, reverse}
use Rattle.ots_tickets.specs.Calls.{tree_of}
use Rattle.ots_tickets.specs.declared.settled.Settled.{Settled}
use Rattle.ots_calendar_batch.specs.Round.{AreSettled}
use Rattle.ots_calendar_batch.proofs.round.take_all.Given as goal

-- The trees after those that are left were taken, the last one first.
abbrev pub invariant-loop-ticket : goal.invariant-loop-ticket
invariant-loop-ticket g l = record {
  are : AreSettled l.tickets.items l.book.tickets.settled;
  store : l.book.store ≡ l.fn.book.store;
  trees : map (λ (s : Settled). tree_of s l.uri) l.fn.book.tickets.settled ≡ map (λ (s : Settled). tree_of s l.uri) l.book.tickets.settled ++ reverse l.trees.items;
}

abbrev pub decreases-loop-ticket : goal.decreases-loop-ticket
decreases-loop-ticket g l = length l.tickets.items
