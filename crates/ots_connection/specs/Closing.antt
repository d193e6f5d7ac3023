-- What a book is left with where the round of a ticket is closed. It serves the code alone.
use Rattle.std.specs.Prelude.{◌≡◌, ◌⊎◌, ◌≤◌, ℕ, ◌+◌, List, ◌++◌, length, Option, Some, Result, Ok}
use Rattle.ots_base.specs.declared.out_of_memory.OutOfMemory.{OutOfMemory}
use Rattle.ots_calendar.specs.Book.{BookTold}
use Rattle.std.specs.List.{AllByRecursion}
use Rattle.ots_http.specs.declared.word.Word.{Word}
use Rattle.ots_shared.specs.Records.{StartsWith}
use Rattle.ots_store.specs.Order.{commits_of}
use Rattle.ots_round.specs.declared.ticket.Receipt.{Receipt}
use Rattle.ots_round.specs.declared.ticket.Ticket.{Ticket}
use Rattle.ots_tickets.specs.Tickets.{TicketsTold, IsSettled, NoneIs, OneIs, Waits, settles}
use Rattle.ots_tickets.specs.declared.settled.Settled.{Settled}
use Rattle.ots_connection.specs.declared.due.Due.{Due}
use Rattle.ots_connection.specs.Replies.{in_words}

-- Records are added at the end alone, the limit stays, and no more tickets wait than before.
pub record Goes {D : Type 0} (old new : BookTold D) : Type 0 where
  pub records : StartsWith new.store.records old.store.records
  pub limit : new.store.journal.limit ≡ old.store.journal.limit
  pub waiting : length new.tickets.waiting ≤ length old.tickets.waiting

-- How many tickets are kept: those that wait, and those whose round is closed.
abbrev pub kept : TicketsTold → ℕ
kept t = length t.waiting + length t.settled

-- The ticket is one of them.
abbrev pub IsKept : Ticket → TicketsTold → Type 0
IsKept ticket t = OneIs (Waits ticket) t.waiting ⊎ OneIs (IsSettled ticket) t.settled

-- The receipt has P wherever this ticket is settled.
abbrev pub AllBear : Ticket → (Receipt → Type 0) → List Settled → Type 0
AllBear ticket P settled = AllByRecursion (λ (s : Settled). IsSettled ticket s → P s.receipt) settled

-- All that waited are settled by one round, whose commitment is the last.
pub record Closed {D : Type 0} (key : List ℕ) (second : ℕ) (old new : BookTold D) : Type 0 where
  pub index : ℕ
  pub settled : new.tickets.settled ≡ old.tickets.settled ++ settles key second index old.tickets.waiting
  pub last : index + 1 ≡ length (commits_of new.store.records)

-- A ticket is refused in words only where it waits, and so its round is not closed.
abbrev pub Owes : Ticket → TicketsTold → Option (Result Due OutOfMemory) → Type 0
Owes ticket tickets due = (word : Word) → due ≡ Some (Ok (in_words word)) → OneIs (Waits ticket) tickets.waiting
    × NoneIs (IsSettled ticket) tickets.settled
