-- Tickets that wait, and tickets whose round is closed.
use Rattle.std.specs.Prelude.{◌≡◌, ◌≢◌, ◌≤◌, ℕ, suc, List, [], ◌∷◌, ◌++◌, length, Some}
use Rattle.std.specs.List.{AllByRecursion}
use Rattle.ots_merkle.specs.CalendarTree.{path}
use Rattle.ots_ops.specs.Value.{value}
use Rattle.ots_round.specs.declared.ticket.Ticket.{Ticket}
use Rattle.ots_round.specs.Round.{leaves, round_commitment, way}
use Rattle.ots_tickets.specs.declared.settled.Settled.{Settled}

pub record TicketsTold : Type 0 where
  -- in the order in which they were put
  pub waiting : List Ticket
  pub settled : List Settled
  -- how many more can be settled without taking memory
  pub spare : ℕ

-- No ticket has this number.
pub record IsNew (number : ℕ) (t : TicketsTold) : Type 0 where
  pub waiting : AllByRecursion (λ (ticket : Ticket). ticket.number ≢ number) t.waiting
  pub settled : AllByRecursion (λ (s : Settled). s.ticket.number ≢ number) t.settled

-- Each ticket of a round, where its commitment is stored at an index: the i-th one has the path of the i-th leaf.
abbrev pub settles_from : ℕ → List ℕ → List (List ℕ) → ℕ → List Ticket → List Settled
settles_from index commitment leaves i [] = []
settles_from index commitment leaves i (ticket ∷ tickets) =
    (record { ticket = ticket; receipt = record { index = index; commitment = commitment }; path = path leaves i })
    ∷ settles_from index commitment leaves (suc i) tickets

-- All tickets of a round that is closed.
abbrev pub settles : List ℕ → ℕ → ℕ → List Ticket → List Settled
settles key second index tickets = settles_from index (round_commitment key second tickets) (leaves tickets) 0 tickets

-- The way of a settled ticket leads from its digest to the commitment of its receipt.
abbrev pub Leads : Settled → Type 0
Leads s = value (way s.ticket.nonce s.path s.receipt.commitment) s.ticket.leaf ≡ Some s.receipt.commitment

-- A tree over as many tickets as may wait has 16 levels above its leaves, and a step on a path is two operations.
abbrev pub IsShort : Settled → Type 0
IsShort s = length s.path ≤ 32

-- ---- one ticket

abbrev pub Waits : Ticket → Ticket → Type 0
Waits ticket other = other ≡ ticket

abbrev pub IsSettled : Ticket → Settled → Type 0
IsSettled ticket s = s.ticket ≡ ticket

-- None of these is it.
abbrev pub NoneIs : {A : Type 0} → (A → Type 0) → List A → Type 0
NoneIs P xs = AllByRecursion (λ x. P x → ⊥) xs

-- One of these is it.
pub record OneIs {A : Type 0} (P : A → Type 0) (xs : List A) : Type 0 where
  pub before : List A
  pub one : A
  pub after : List A
  pub whole : xs ≡ before ++ one ∷ after
  pub is : P one

-- One of these is it, and is taken away.
pub record TakesOne {A : Type 0} (P : A → Type 0) (one : A) (old new : List A) : Type 0 where
  pub before : List A
  pub after : List A
  pub whole : old ≡ before ++ one ∷ after
  pub rest : new ≡ before ++ after
  pub is : P one
