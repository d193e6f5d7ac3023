-- A round that is ready to be closed. It serves the code alone.
use Rattle.std.specs.Prelude.{◌≡◌, ◌<◌, ℕ, List, length}
use Rattle.ots_round.specs.declared.ticket.Ticket.{Ticket}
use Rattle.ots_round.specs.Round.{round_commitment}
use Rattle.ots_tickets.specs.declared.settled.Settled.{Settled}
use Rattle.ots_tickets.specs.Tickets.{settles}

abbrev pub at_index : ℕ → Settled → Settled
at_index index s = record {
  ticket = s.ticket;
  receipt = record { index = index; commitment = s.receipt.commitment };
  path = s.path;
}

pub record IsReady (key : List ℕ) (second : ℕ) (tickets : List Ticket) (commitment : List ℕ)
    (settled : List Settled) : Type 0 where
  pub some : 0 < length tickets
  pub commitment_is : commitment ≡ round_commitment key second tickets
  pub settled_are : settled ≡ settles key second 0 tickets
