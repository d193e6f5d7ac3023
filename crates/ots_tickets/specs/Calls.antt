-- What the calls on tickets do.
use Rattle.std.specs.Prelude.{◌≡◌, ◌⊎◌, ◌≤◌, ℕ, Bool, true, false, List, ◌∷◌, length, Some}
use Rattle.ots_attest.specs.declared.attestation.Attestation.TheVariants.{Pending}
use Rattle.ots_ops.specs.Value.{value}
use Rattle.ots_ops.specs.declared.op.Op.{Op}
use Rattle.ots_ops.specs.declared.op.Op.TheVariants.{Append, Sha256}
use Rattle.ots_round.specs.declared.ticket.Receipt.{Receipt}
use Rattle.ots_round.specs.declared.ticket.Ticket.{Ticket}
use Rattle.ots_round.specs.Round.{way}
use Rattle.ots_tree.specs.Made.{lone}
use Rattle.ots_tree.specs.Wire.{pre}
use Rattle.ots_tree.specs.declared.token.Token.{Token}
use Rattle.ots_tickets.specs.declared.settled.Settled.{Settled}
use Rattle.ots_tickets.specs.declared.tickets.Taken.{Taken}
use Rattle.ots_tickets.specs.declared.tickets.Taken.TheVariants as taken
use Rattle.ots_tickets.specs.Tickets.{TicketsTold, Waits, IsSettled, NoneIs, OneIs, TakesOne}

-- the tree of the one path from a ticket's digest to its commitment
abbrev pub tree_of : Settled → List ℕ → List Token
tree_of s uri = pre (lone (way s.ticket.nonce s.path s.receipt.commitment) (Pending uri))

pub record TakesSettled (ticket : Ticket) (uri : List ℕ) (old new : TicketsTold) (given : Taken) : Type 0 where
  pub one : Settled
  pub takes : TakesOne (IsSettled ticket) one old.settled new.settled
  pub waiting : new.waiting ≡ old.waiting
  pub answer : given ≡ taken.Settled (tree_of one uri) one.receipt

-- It is settled, and then gone; or it waits; or it is neither.
abbrev pub Takes : Ticket → List ℕ → TicketsTold → TicketsTold → Taken → Type 0
Takes ticket uri old new answer =
    TakesSettled ticket uri old new answer
    ⊎ ((NoneIs (IsSettled ticket) old.settled × OneIs (Waits ticket) old.waiting × (new ≡ old)
    × (answer ≡ taken.Waiting))
    ⊎ (NoneIs (IsSettled ticket) old.settled × NoneIs (Waits ticket) old.waiting × (new ≡ old)
    × (answer ≡ taken.Unknown)))

-- What is answered, where the ticket's round is closed.
abbrev pub IfSettled : Taken → (List Token → Receipt → Type 0) → Type 0
IfSettled (taken.Settled tree receipt) P = P tree receipt
IfSettled taken.Waiting P = Unit {0}
IfSettled taken.Unknown P = Unit {0}

-- The tree is that of one path, which puts the ticket's nonce after its digest, hashes that, leads to the receipt's
-- commitment, and ends in a pending attestation of this URI.
pub record LeadsTo (ticket : Ticket) (uri : List ℕ) (tree : List Token) (receipt : Receipt) : Type 0 where
  -- the operations after the first two
  pub rest : List Op
  pub tree_is : tree ≡ pre (lone (Append ticket.nonce ∷ Sha256 ∷ rest) (Pending uri))
  pub leads : value (Append ticket.nonce ∷ Sha256 ∷ rest) ticket.leaf ≡ Some receipt.commitment
  pub few : length rest ≤ 34

pub record WithdrawsSettled (ticket : Ticket) (old new : TicketsTold) : Type 0 where
  pub one : Settled
  pub takes : TakesOne (IsSettled ticket) one old.settled new.settled
  pub waiting : new.waiting ≡ old.waiting

pub record WithdrawsWaiting (ticket : Ticket) (old new : TicketsTold) : Type 0 where
  pub none : NoneIs (IsSettled ticket) old.settled
  pub takes : TakesOne (Waits ticket) ticket old.waiting new.waiting
  pub settled : new.settled ≡ old.settled

-- Where it was settled or waited it is gone, and else nothing changes.
abbrev pub Withdraws : Ticket → TicketsTold → TicketsTold → Bool → Type 0
Withdraws ticket old new true = WithdrawsSettled ticket old new ⊎ WithdrawsWaiting ticket old new
Withdraws ticket old new false = NoneIs (IsSettled ticket) old.settled × NoneIs (Waits ticket) old.waiting × (new ≡ old)
