-- What the row of a hold tells of the book.
use Rattle.std.proofs.Common.{◌≡◌, inl, inr, ℕ, ◌+◌, Bool, true, false, ◌∷◌, length, ap, arith, length-append}
use Rattle.std.specs.Prelude.{MatchOption, Option, None, Some, Result}
use Rattle.ots_base.specs.declared.out_of_memory.OutOfMemory.{OutOfMemory}
use Rattle.ots_calendar.specs.Book.{BookTold}
use Rattle.ots_round.specs.declared.ticket.Ticket.{Ticket}
use Rattle.ots_shared.specs.Rows.{row}
use Rattle.ots_store.specs.Store.{StoreTold}
use Rattle.ots_tickets.specs.Calls.{Withdraws}
use Rattle.ots_tickets.specs.Tickets.{TicketsTold}
use Rattle.ots_connection.specs.Holds.{ChangesNothing, KeepsStore}
use Rattle.ots_connection.specs.Stamping.{IsGone, settled, withdrawn, with_one}
use Rattle.ots_connection.specs.declared.due.Due.{Due}

module _ {D : Type 0} (faults : D → ℕ) (old new : BookTold D) where
  pub keeps_store : new.store ≡ old.store → KeepsStore (row faults old new)
  keeps_store same = record {
    records = ap (λ (s : StoreTold D). length s.records) same;
    gate = ap (λ (s : StoreTold D). s.journal.gate) same;
    faults = ap (λ (s : StoreTold D). faults s.journal.disk) same;
  }

  pub changes_nothing : new.store ≡ old.store → length new.tickets.waiting ≡ length old.tickets.waiting → ChangesNothing (row faults old new)
  changes_nothing same waiting = record {
    records = ap (λ (s : StoreTold D). length s.records) same;
    gate = ap (λ (s : StoreTold D). s.journal.gate) same;
    faults = ap (λ (s : StoreTold D). faults s.journal.disk) same;
    waiting = waiting;
  }

  -- what is not settled changes nothing
  pub or_nothing : (P : Result Due OutOfMemory → Type 0) (due : Option (Result Due OutOfMemory)) → MatchOption due (new ≡ old) P → MatchOption due (ChangesNothing (row faults old new)) P
  or_nothing P None same = changes_nothing (ap (λ (b : BookTold D). b.store) same) (ap (λ (b : BookTold D). length b.tickets.waiting) same)
  or_nothing P (Some due) is = is

  -- the ticket was given up
  pub is_gone : (t : Ticket) (answer : Bool) → new.store ≡ old.store → Withdraws t old.tickets new.tickets answer → IsGone (row faults old new)
  is_gone t true same (inl w) = settled (changes_nothing same (ap length w.waiting))
  is_gone t true same (inr w) =
      let x = w.takes in
      let whole = ap length x.whole in
      let rest = ap length x.rest in
      withdrawn (omega (arith, length-append x.before (t ∷ x.after), length-append x.before x.after))
  is_gone t false same w = settled (changes_nothing same (ap (λ (x : TicketsTold). length x.waiting) w.2))

-- a ticket was put first
pub put_first : {D : Type 0} (faults : D → ℕ) (old mid new : BookTold D) → mid.store ≡ old.store → length mid.tickets.waiting ≡ length old.tickets.waiting + 1
    → row faults mid new ≡ with_one (row faults old new)
put_first faults old mid new same one = λ i. record {
  records_found = length (same i).records;
  records_left = length new.store.records;
  gate_found = (same i).journal.gate;
  gate_left = new.store.journal.gate;
  faults_found = faults (same i).journal.disk;
  faults_left = faults new.store.journal.disk;
  waiting_found = one i;
  waiting_left = length new.tickets.waiting;
}
