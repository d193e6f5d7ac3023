-- The numbers of tickets. It serves the code alone.
use Rattle.std.specs.Prelude.{◌≡◌, ◌<◌, ◌≤◌, ℕ, List, length}
use Rattle.std.specs.List.{AllByRecursion}
use Rattle.ots_round.specs.declared.ticket.Ticket.{Ticket}
use Rattle.ots_tickets.specs.declared.tickets.TheConstants.{MAX_WAITING}
use Rattle.ots_tickets.specs.declared.settled.Settled.{Settled}
use Rattle.ots_tickets.specs.Tickets.{Leads, IsShort}

-- A digest has at most 64 bytes, and a nonce 16.
pub record Fits (t : Ticket) : Type 0 where
  pub leaf : length t.leaf ≤ 64
  pub nonce : length t.nonce ≡ 16

-- All of them are below the next one, and so many wait, no more than may.
pub record AreNumbered (next count : ℕ) (waiting : List Ticket) (settled : List Settled) : Type 0 where
  pub counted : count ≡ length waiting
  pub few : length waiting ≤ MAX_WAITING
  pub waiting_below : AllByRecursion (λ (t : Ticket). t.number < next) waiting
  pub waiting_fit : AllByRecursion Fits waiting
  pub leading : AllByRecursion Leads settled
  pub short : AllByRecursion IsShort settled
  pub settled_below : AllByRecursion (λ (s : Settled). s.ticket.number < next) settled
