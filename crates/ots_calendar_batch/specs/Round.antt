-- Making a round, step by step. It serves the code of `batch`.
use Rattle.std.specs.Prelude.{◌≡◌, ◌≢◌, ◌⊎◌, ◌<◌, ◌≤◌, ◌^◌, ℕ, List, [], ◌∷◌, ◌++◌, length, map, Option, Some, None}
use Rattle.std.specs.Prelude.{Result, Ok, Err, Vec}
use Rattle.std.specs.List.{AllByRecursion}
use Rattle.std.specs.declared.alloc.Global.{Global}
use Rattle.ots_base.specs.Told.{IfTold}
use Rattle.ots_disk.specs.Disk.{LeavesOnly}
use Rattle.ots_outside.specs.Streams.{Gives}
use Rattle.ots_journal.specs.declared.entry.Entry.{Entry}
use Rattle.ots_journal.specs.declared.errors.AppendError.{AppendError}
use Rattle.ots_journal.specs.declared.errors.AppendError.TheVariants as append
use Rattle.ots_journal.specs.Image.{Stands}
use Rattle.ots_journal.specs.Journal.{JournalTold}
use Rattle.ots_round.specs.declared.ticket.Ticket.{Ticket}
use Rattle.ots_store.specs.Store.{Added, MakesRoom, with_room}
use Rattle.ots_tickets.specs.Calls.{tree_of}
use Rattle.ots_tickets.specs.Tickets.{IsNew, TicketsTold, settles}
use Rattle.ots_tickets.specs.declared.settled.Settled.{Settled}
use Rattle.ots_tickets.specs.declared.tickets.TheConstants.{MAX_WAITING}
use Rattle.ots_tree.specs.declared.token.Token.{Token}
use Rattle.ots_calendar.specs.Book.{BookTold}
use Rattle.ots_calendar_text.specs.Refusal.{refusal_text}
use Rattle.ots_calendar_text.specs.declared.status.DaemonStatus.{DaemonStatus}
use Rattle.ots_calendar_text.specs.declared.status.DaemonStatus.TheVariants as status
use Rattle.ots_calendar_batch.specs.declared.round.BatchError.{BatchError}
use Rattle.ots_calendar_batch.specs.declared.round.BatchError.TheVariants.{BadSecond, NonceFault, NotStored}
use Rattle.ots_calendar_batch.specs.declared.round.BatchError.TheVariants.{OutOfMemory}
use Rattle.ots_calendar_batch.specs.declared.trees.Trees.{Trees}
use Rattle.ots_calendar_batch.specs.Batch.{AddsRound, AreTickets, Drawing, RoundAnswers, joined, next_index}
use Rattle.ots_calendar_batch.specs.Batch.{round_entries}
use Rattle.ots_calendar_endings.specs.RunEnd.{AllStand, Comes, RunEnd, done, nowhere}
use Rattle.ots_calendar_endings.specs.Moments.{StandsWith}
use Rattle.ots_calendar_batch.specs.Trees.{trees_lines}

abbrev pub batch_status : BatchError → DaemonStatus
batch_status (BadSecond second) = status.BadSecond second
batch_status NonceFault = status.NonceFault
batch_status (NotStored append.DiskFault) = status.DiskFault
batch_status (NotStored (append.Full need limit)) = status.Full need limit
batch_status (NotStored append.OutOfMemory) = status.OutOfMemory
batch_status OutOfMemory = status.OutOfMemory

-- what a batch may put
pub record IsRound (digests : List (List ℕ)) : Type 0 where
  pub some : 1 ≤ length digests
  pub most : length digests ≤ MAX_WAITING

-- the clock's second, or its refusal
abbrev pub SecondOf : Option ℕ → Result ℕ BatchError → Type 0
SecondOf coming (Ok second) = (second < 2 ^ 32) × IfTold coming (λ s. second ≡ s)
SecondOf coming (Err e) = (second : ℕ) × (e ≡ BadSecond second) × (2 ^ 32 ≤ second) × IfTold coming (λ s. second ≡ s)

-- ---- putting

-- no two have one number
abbrev pub AreDistinct : List Ticket → Type 0
AreDistinct [] = Unit {0}
AreDistinct (ticket ∷ tickets) = AllByRecursion (λ (other : Ticket). other.number ≢ ticket.number) tickets
    × AreDistinct tickets

-- a ticket was put with its nonce
pub record IsPut (left now : Option (List ℕ)) (digest : List ℕ) (old new : TicketsTold) (ticket : Ticket) : Type 0 where
  pub long : length ticket.nonce ≡ 16
  pub drawn : Gives left now ticket.nonce
  pub leaf : ticket.leaf ≡ digest
  pub is_new : IsNew ticket.number old
  pub waits : new.waiting ≡ old.waiting ++ ticket ∷ []

-- a nonce was drawn, and no more was done
pub record IsDrawn (left now : Option (List ℕ)) : Type 0 where
  pub nonce : List ℕ
  pub long : length nonce ≡ 16
  pub drawn : Gives left now nonce

abbrev pub PutsOne : Option (List ℕ) → Option (List ℕ) → Type 0 → List ℕ → TicketsTold → TicketsTold
    → Result Ticket BatchError → Type 0
PutsOne left now failed digest old new (Ok ticket) = IsPut left now digest old new ticket
PutsOne left now failed digest old new (Err e) = ((e ≡ NonceFault) × failed × (now ≡ left))
    ⊎ ((e ≡ OutOfMemory) × IsDrawn left now)

abbrev pub PutsOutcome : Type 0 → List (List ℕ) → List (List ℕ) → List Ticket → Result (Vec Ticket Global) BatchError
    → Type 0
PutsOutcome failed digests nonces waiting (Ok tickets) = AreTickets digests nonces tickets.items
    × (waiting ≡ tickets.items) × AreDistinct tickets.items
PutsOutcome failed digests nonces waiting (Err (BadSecond second)) = ⊥
PutsOutcome failed digests nonces waiting (Err NonceFault) = (length nonces < length digests) × failed
PutsOutcome failed digests nonces waiting (Err (NotStored why)) = ⊥
PutsOutcome failed digests nonces waiting (Err OutOfMemory) = Unit {0}

pub record PutsAll (left now : Option (List ℕ)) (failed : Type 0) (digests : List (List ℕ)) (waiting : List Ticket)
    (r : Result (Vec Ticket Global) BatchError) : Type 0 where
  pub nonces : List (List ℕ)
  pub each : AllByRecursion (λ (nonce : List ℕ). length nonce ≡ 16) nonces
  pub drawn : Gives left now (joined nonces)
  pub most : length nonces ≤ length digests
  pub outcome : PutsOutcome failed digests nonces waiting r

-- the tickets so far
pub record PutTo (left now : Option (List ℕ)) (digests : List (List ℕ)) (tickets waiting : List Ticket) : Type 0 where
  pub nonces : List (List ℕ)
  pub each : AllByRecursion (λ (nonce : List ℕ). length nonce ≡ 16) nonces
  pub drawn : Gives left now (joined nonces)
  pub are : AreTickets digests nonces tickets
  pub waits : waiting ≡ tickets
  pub distinct : AreDistinct tickets

-- ---- closing

-- the commitment is stored at an index, and all that waited is settled
pub record RoundStored {D : Type 0} (clock : D → ℕ) (images : D → List ℕ → Type 0)
    (images_since : D → ℕ → List ℕ → Type 0) (key : List ℕ) (second : ℕ) (old new : BookTold D)
    (index : ℕ) : Type 0 where
  pub added : Added {A = ℕ} clock images_since old.store.journal new.store.journal
      (round_entries key second old.tickets.waiting) (Ok index)
  pub kept : (c : List ℕ) → images new.store.journal.disk c → Stands c new.store.journal.entries
  pub settled : new.tickets.settled ≡ settles key second index old.tickets.waiting
  pub at : index ≡ next_index old.store.journal.entries

-- It is not stored, in a journal that has this room for it, or memory ran out before the disk was called.
abbrev pub RoundRefused : {D : Type 0} → (D → ℕ) → (D → ℕ → List ℕ → Type 0) → List ℕ → ℕ → BookTold D → BookTold D
    → AppendError → Type 0
RoundRefused clock images_since key second old new why =
    ((spare_entries : ℕ) × (spare_bytes : ℕ) × Added {A = ℕ} clock images_since
    (with_room old.store.journal spare_entries spare_bytes) new.store.journal
    (round_entries key second old.tickets.waiting) (Err why))
    ⊎ ((why ≡ append.OutOfMemory) × MakesRoom old.store.journal new.store.journal)

abbrev pub ClosesTo : {D : Type 0} → (D → ℕ) → (D → List ℕ → Type 0) → (D → ℕ → List ℕ → Type 0) → Type 0 → List ℕ → ℕ
    → BookTold D → BookTold D → Result ℕ BatchError → Type 0
ClosesTo clock images images_since disk key second old new (Ok index) = RoundStored clock images images_since key second
    old new index
ClosesTo clock images images_since disk key second old new (Err (BadSecond s)) = ⊥
ClosesTo clock images images_since disk key second old new (Err NonceFault) = ⊥
ClosesTo clock images images_since disk key second old new (Err (NotStored why)) = RoundRefused clock images_since key
    second old new why × (why ≡ append.DiskFault → disk)
ClosesTo clock images images_since disk key second old new (Err OutOfMemory) = ⊥

-- ---- taking

abbrev pub ticket_of : Settled → Ticket
ticket_of settled = settled.ticket

-- These are settled, in their order, and no two have one number.
pub record AreSettled (tickets : List Ticket) (settled : List Settled) : Type 0 where
  pub are : map ticket_of settled ≡ tickets
  pub distinct : AreDistinct tickets

-- The last one is the ticket's, and no other has its number.
pub record IsLast (ticket : Ticket) (before : List Settled) (last : Settled) (settled : List Settled) : Type 0 where
  pub whole : settled ≡ before ++ last ∷ []
  pub is : last.ticket ≡ ticket
  pub others : AllByRecursion (λ (other : Settled). other.ticket.number ≢ ticket.number) before

pub record HasLast (ticket : Ticket) (settled : List Settled) : Type 0 where
  pub before : List Settled
  pub last : Settled
  pub is_last : IsLast ticket before last settled

abbrev pub TakesAll : List ℕ → List Settled → Result (Vec (List Token) Global) BatchError → Type 0
TakesAll uri settled (Ok trees) = trees.items ≡ map (λ (s : Settled). tree_of s uri) settled
TakesAll uri settled (Err e) = e ≡ OutOfMemory

-- ---- the whole

-- what is known of the journal after a refusal
abbrev pub left_by : List Entry → BatchError → Option (List Entry)
left_by entries (BadSecond second) = Some entries
left_by entries NonceFault = Some entries
left_by entries (NotStored append.DiskFault) = None
left_by entries (NotStored (append.Full need limit)) = Some entries
left_by entries (NotStored append.OutOfMemory) = None
left_by entries OutOfMemory = None

abbrev pub round_ending : List Entry → Result Trees BatchError → RunEnd
round_ending entries (Ok trees) = done entries (trees_lines trees.index trees.trees.items)
round_ending entries (Err e) = record {
  status = batch_status e;
  text = refusal_text [] (batch_status e);
  entries = left_by entries e;
}

-- What is to be shown of a round.
pub record RoundEnds {D : Type 0} (clock : D → ℕ) (images : D → List ℕ → Type 0)
    (images_since : D → ℕ → List ℕ → Type 0) (happens : Drawing → Type 0) (failed disk : Type 0)
    (key uri : List ℕ) (digests : List (List ℕ)) (old new : JournalTold D) (r : Result Trees BatchError) : Type 0 where
  pub comes : Comes (RoundAnswers happens failed old.limit key uri digests old.gate old.entries) nowhere disk
      (round_ending new.entries r)
  pub stand : AllStand (images new.disk) (round_ending new.entries r).entries
  pub moments : LeavesOnly clock images_since old.disk new.disk
      (StandsWith (AddsRound happens key digests old.entries) old.entries)
