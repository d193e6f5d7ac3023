use Rattle.std.proofs.Common.{◌≡◌, ◌≤◌, ◌<◌, ℕ, [], take, get_or, length}
use Rattle.ots_merkle.specs.CalendarTree.{path}
use Rattle.ots_round.specs.Round.{leaves}
use Rattle.ots_tickets.specs.Tickets.{settles_from}
use Rattle.ots_tickets.proofs.rounds.settled_by.Given as goal

abbrev pub invariant-loop-i : goal.invariant-loop-i
invariant-loop-i l = record {
  count : length l.paths.items ≡ length l.tickets;
  left : (k : ℕ) → l.i ≤ k → k < length l.tickets → get_or l.paths.items k [] ≡ path (leaves l.tickets) k;
  so_far : l.settled.items ≡ take l.i (settles_from 0 l.commitment (leaves l.tickets) 0 l.tickets);
}
