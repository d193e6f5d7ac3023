-- What contracts see of a book, and what every book keeps.
use Rattle.std.specs.Prelude.{◌≡◌, ℕ, Bool, true, false, List, ◌++◌, Option, Some, slice_get}
use Rattle.std.specs.List.{AllByRecursion}
use Rattle.ots_disk.specs.Disk.{LeavesOnly}
use Rattle.ots_journal.specs.declared.entry.Entry.{Entry}
use Rattle.ots_journal.specs.Image.{Stands}
use Rattle.ots_journal.specs.Journal.{JournalTold, StandsForEither, Refreshed, Unrefreshed}
use Rattle.ots_round.specs.declared.ticket.Receipt.{Receipt}
use Rattle.ots_round.specs.declared.ticket.Ticket.{Ticket}
use Rattle.ots_store.specs.Order.{commits_of, records_of}
use Rattle.ots_store.specs.Records.{Record}
use Rattle.ots_store.specs.Store.{StoreTold, InRecords, with_room}
use Rattle.ots_tickets.specs.Calls.{LeadsTo}
use Rattle.ots_tickets.specs.Tickets.{TicketsTold}
use Rattle.ots_tickets.specs.declared.settled.Settled.{Settled}
use Rattle.ots_tickets.specs.declared.tickets.Taken.{Taken}
use Rattle.ots_tickets.specs.declared.tickets.Taken.TheVariants as taken
use Rattle.ots_tree.specs.declared.token.Token.{Token}
use Rattle.ots_kept_trees.specs.declared.trees.Trees.{Trees}
use Rattle.ots_kept_trees.specs.Kept.{AreKept}
use Rattle.ots_calendar.specs.Values.{AreTrue}

pub record BookTold (D : Type 0) : Type 0 where
  -- its records, on a journal
  pub store : StoreTold D
  -- what waits, and what is left of closed rounds
  pub tickets : TicketsTold

-- These bytes stand for records in order whose values are right: a book can be opened on them.
pub record StandsForBook (bytes : List ℕ) : Type 0 where
  pub entries : List Entry
  pub stands : Stands bytes entries
  pub records : InRecords entries
  pub are_true : AreTrue (records_of entries)

-- The commitment of a receipt stands at its index.
abbrev pub StandsAt : List (List ℕ) → Receipt → Type 0
StandsAt commits receipt = slice_get commits receipt.index ≡ Some receipt.commitment

abbrev pub AllStand : List (List ℕ) → List Settled → Type 0
AllStand commits settled = AllByRecursion (λ (s : Settled). StandsAt commits s.receipt) settled

-- What is given for a ticket whose round is closed: the commitment of the receipt stands at its index among those of
-- the records, and the tree leads to it.
pub record Gives (records : List Record) (ticket : Ticket) (uri : List ℕ) (tree : List Token)
    (receipt : Receipt) : Type 0 where
  pub stands : StandsAt (commits_of records) receipt
  pub leads : LeadsTo ticket uri tree receipt

-- A ticket that was put is withdrawn: it is gone, and the others are as before.
pub record IsGone (before after : TicketsTold) (answer : Bool) : Type 0 where
  pub yes : answer ≡ true
  pub waiting : after.waiting ≡ before.waiting
  pub settled : after.settled ≡ before.settled

-- A ticket whose round is closed is given.
pub record IsTaken (before after : TicketsTold) (answer : Taken) : Type 0 where
  pub tree : List Token
  pub receipt : Receipt
  pub waiting : after.waiting ≡ before.waiting
  pub given : answer ≡ taken.Settled tree receipt

-- The values of its records are right, and so are they with the group in flight.
pub record Keeps {D : Type 0} (journal : JournalTold D) : Type 0 where
  pub are_true : AreTrue (records_of journal.entries)
  pub flying : journal.is_sure ≡ false → AreTrue (records_of (journal.entries ++ journal.flight))

-- The commitment of each settled ticket's receipt stands at its index. That its way leads there, the tickets keep.
pub record KeepsBook {D : Type 0} (journal : JournalTold D) (trees : Trees) (tickets : TicketsTold) : Type 0 where
  pub records : Keeps journal
  pub kept : AreKept (commits_of (records_of journal.entries)) trees
  pub settled : AllStand (commits_of (records_of journal.entries)) tickets.settled

-- ---- calls that may write

-- The call refreshes the journal, and then goes on from what it finds.
pub record GoesOn {D : Type 0} (bytes : D → Option (List ℕ)) (clock : D → ℕ) (images_since : D → ℕ → List ℕ → Type 0)
    (old : JournalTold D) (then : JournalTold D → Type 0) : Type 0 where
  -- the journal after the refresh
  pub mid : JournalTold D
  pub refreshed : Refreshed bytes old mid
  pub refreshing : LeavesOnly clock images_since old.disk mid.disk (StandsForEither old.entries old.flight)
  pub goes_on : then mid

-- The refresh failed, and nothing more was done.
pub record Stops {D : Type 0} (bytes : D → Option (List ℕ)) (clock : D → ℕ) (images_since : D → ℕ → List ℕ → Type 0)
    (old new : JournalTold D) : Type 0 where
  pub unrefreshed : Unrefreshed bytes old new
  pub refreshing : LeavesOnly clock images_since old.disk new.disk (StandsForEither old.entries old.flight)

-- The same in a journal in which room was made for what the call adds.
pub record GoesOnInRoom {D : Type 0} (bytes : D → Option (List ℕ)) (clock : D → ℕ)
    (images_since : D → ℕ → List ℕ → Type 0) (old : JournalTold D) (then : JournalTold D → Type 0) : Type 0 where
  -- the room that the journal has at the refresh
  pub spare_entries : ℕ
  pub spare_bytes : ℕ
  pub goes_on : GoesOn bytes clock images_since (with_room old spare_entries spare_bytes) then

pub record StopsInRoom {D : Type 0} (bytes : D → Option (List ℕ)) (clock : D → ℕ)
    (images_since : D → ℕ → List ℕ → Type 0) (old new : JournalTold D) : Type 0 where
  -- the room that the journal has at the refresh
  pub spare_entries : ℕ
  pub spare_bytes : ℕ
  pub stops : Stops bytes clock images_since (with_room old spare_entries spare_bytes) new

-- The journal's limit stays, and its entries begin with those before.
pub record Grows {D : Type 0} (old new : JournalTold D) : Type 0 where
  pub limit : new.limit ≡ old.limit
  pub more : List Entry
  pub entries : new.entries ≡ old.entries ++ more
