-- What comes of a digest, each answer with its cause.
use Rattle.std.specs.Prelude.{◌≡◌, ◌⊎◌, ◌<◌, ◌≤◌, ℕ, ◌+◌, ◌^◌, List, [], ◌∷◌, length, Option, None, Some, Result, Ok}
use Rattle.std.specs.Prelude.{Err}
use Rattle.ots_base.specs.Cause.{Rose}
use Rattle.ots_base.specs.Told.{IfTold}
use Rattle.ots_base.specs.declared.out_of_memory.OutOfMemory.{OutOfMemory}
use Rattle.ots_calendar.specs.Book.{Gives}
use Rattle.ots_http.specs.declared.word.Word.TheVariants.{Nonce, Clock, Busy, Disk, JournalFull}
use Rattle.ots_journal.specs.Journal.{size_with}
use Rattle.ots_outside.specs.Streams as bytes
use Rattle.ots_round.specs.declared.ticket.Receipt.{Receipt}
use Rattle.ots_round.specs.declared.ticket.Ticket.{Ticket}
use Rattle.ots_round.specs.Round.{round_commitment}
use Rattle.ots_shared.specs.declared.row.Row.{Row}
use Rattle.ots_store.specs.Order.{commits_of}
use Rattle.ots_store.specs.Records.{Record, CommitRecord, entry_of}
use Rattle.ots_tickets.specs.Tickets.{OneIs}
use Rattle.ots_tickets.specs.declared.tickets.TheConstants.{MAX_WAITING}
use Rattle.ots_tree.specs.declared.token.Token.{Token}
use Rattle.ots_connection.specs.declared.due.Due.{Due}
use Rattle.ots_connection.specs.Holds.{ChangesNothing, KeepsStore}
use Rattle.ots_connection.specs.Replies.{in_words, stamp}

-- ---- what is drawn

-- What contracts see of the nonces and of the clock.
pub record SourcesTold : Type 0 where
  -- the bytes of nonces to come
  pub left : Option (List ℕ)
  -- how often a draw has failed
  pub faults : ℕ
  -- the second to come
  pub second : Option ℕ

-- The next 16 bytes were drawn, or the nonces' count of faults rose, and the clock is not read then.
abbrev pub Draws : Option (List ℕ) → SourcesTold → SourcesTold → Type 0
Draws (Some nonce) old new = (length nonce ≡ 16) × bytes.Gives old.left new.left nonce
Draws None old new = (new.left ≡ old.left) × (new.second ≡ old.second) × Rose old.faults new.faults

-- ---- what a hold that puts a ticket does

-- The hold put a ticket: one more waits, and nothing else changed.
pub record PutsTicket (row : Row) : Type 0 where
  pub store : KeepsStore row
  pub room : row.waiting_found < MAX_WAITING
  pub one : row.waiting_left ≡ row.waiting_found + 1

-- As many tickets waited as may.
abbrev pub IsBusy : Row → Result Due OutOfMemory → Type 0
IsBusy row due = (row.waiting_found ≡ MAX_WAITING) × (due ≡ Ok (in_words Busy))

-- The hold was to put a ticket and put none: as many waited as may, or else memory ran out. It changed nothing.
pub data PutsNone (row : Row) (due : Result Due OutOfMemory) : Type 0 where
  busy : ChangesNothing row → IsBusy row due → PutsNone row due
  no_memory : ChangesNothing row → row.waiting_found < MAX_WAITING → (why : OutOfMemory) → due ≡ Err why
      → PutsNone row due

-- ---- what the hold that settles it does

-- A digest was timestamped: the tree is that of one path, which puts the nonce after the digest, hashes that, leads to
-- the receipt's commitment, and ends in a pending attestation of this URI. The commitment stands at the receipt's
-- index.
pub record Stamps (records : List Record) (leaf nonce uri : List ℕ) (tree : List Token)
    (receipt : Receipt) : Type 0 where
  pub ticket : Ticket
  pub leaf_is : ticket.leaf ≡ leaf
  pub nonce_is : ticket.nonce ≡ nonce
  pub gives : Gives records ticket uri tree receipt

-- With one commitment more after this closed gate, the file would be longer than the limit.
pub record IsFull (limit gate : ℕ) : Type 0 where
  pub commitment : List ℕ
  pub long : length commitment ≡ 44
  pub past : limit < size_with gate (entry_of (CommitRecord commitment) ∷ [])

-- A ticket of this digest and this nonce.
abbrev pub IsOf : List ℕ → List ℕ → Ticket → Type 0
IsOf leaf nonce ticket = (ticket.leaf ≡ leaf) × (ticket.nonce ≡ nonce)

-- The hold closed the round: the receipt's commitment is that of this second, this key, and the tickets that waited,
-- one of them of this digest and nonce. It is the last commitment that the hold left, and no ticket waits then.
pub record ClosesRound (leaf nonce key : List ℕ) (second limit : ℕ) (seen : List Record) (row : Row)
    (receipt : Receipt) : Type 0 where
  pub more : row.records_found < row.records_left
  pub tickets : List Ticket
  pub there : OneIs (IsOf leaf nonce) tickets
  -- all that waited as the book was found
  pub all : row.waiting_found ≤ length tickets
  pub commitment : receipt.commitment ≡ round_commitment key second tickets
  pub last : receipt.index + 1 ≡ length (commits_of seen)
  pub none_waits : row.waiting_left ≡ 0
  -- the closed gate is the last byte of the file
  pub within : row.gate_left < limit

-- The hold changed nothing, since another caller had closed the round, or it closed the round.
abbrev pub IsStored : List ℕ → List ℕ → List ℕ → ℕ → ℕ → List Record → Row → Receipt → Type 0
IsStored leaf nonce key second limit seen row receipt = ChangesNothing row
    ⊎ ClosesRound leaf nonce key second limit seen row receipt

-- The round is not closed, and the ticket is withdrawn: one fewer waits.
abbrev pub IsWithdrawn : Row → Type 0
IsWithdrawn row = row.waiting_left + 1 ≡ row.waiting_found

-- Memory ran out, and the ticket neither waits nor is settled any more, as far as a row tells.
pub data IsGone (row : Row) : Type 0 where
  -- it did not wait: another caller had closed its round
  settled : ChangesNothing row → IsGone row
  withdrawn : IsWithdrawn row → IsGone row
  -- this hold closed its round
  closed : row.records_found < row.records_left → row.waiting_left ≡ 0 → IsGone row

-- What comes of a ticket, where the hold leaves these records and this row: it is taken, where its round is closed in
-- this hold or was before it, or else withdrawn.
pub data Settles (leaf nonce key uri : List ℕ) (second limit : ℕ) (seen : List Record) (row : Row)
    (due : Result Due OutOfMemory) : Type 0 where
  stamped : (tree : List Token) (receipt : Receipt) → Stamps seen leaf nonce uri tree receipt
      → IsStored leaf nonce key second limit seen row receipt → due ≡ Ok (stamp tree receipt)
      → Settles leaf nonce key uri second limit seen row due
  disk : Rose row.faults_found row.faults_left → IsWithdrawn row → due ≡ Ok (in_words Disk)
      → Settles leaf nonce key uri second limit seen row due
  full : IsFull limit row.gate_left → IsWithdrawn row → due ≡ Ok (in_words JournalFull)
      → Settles leaf nonce key uri second limit seen row due
  no_memory : IsGone row → (why : OutOfMemory) → due ≡ Err why → Settles leaf nonce key uri second limit seen row due

-- ---- what a hold that puts a ticket and settles it does

-- The row, as if one ticket more had waited as the book was found.
abbrev pub with_one : Row → Row
with_one row = record {
  records_found = row.records_found;
  records_left = row.records_left;
  gate_found = row.gate_found;
  gate_left = row.gate_left;
  faults_found = row.faults_found;
  faults_left = row.faults_left;
  waiting_found = row.waiting_found + 1;
  waiting_left = row.waiting_left;
}

-- The ticket waits beside those that waited, and is settled; no more wait as the hold left the book than as it found
-- it.
pub data PutsAndSettles (leaf nonce key uri : List ℕ) (second limit : ℕ) (seen : List Record) (row : Row)
    (due : Result Due OutOfMemory) : Type 0 where
  none : PutsNone row due → PutsAndSettles leaf nonce key uri second limit seen row due
  put : row.waiting_found < MAX_WAITING → row.waiting_left ≤ row.waiting_found
      → Settles leaf nonce key uri second limit seen (with_one row) due
      → PutsAndSettles leaf nonce key uri second limit seen row due

-- ---- the whole call

-- What comes of a digest whose nonce was drawn at this second, with the rows of the call's holds. The first hold puts a
-- ticket, and the second settles it. Where the second finds that another caller has given the ticket up, it changes
-- nothing, and a third puts it once more and settles it. So busy comes exactly where a hold that puts, the first or the
-- third, found as many waiting as may.
pub data Comes (leaf nonce key uri : List ℕ) (second limit : ℕ) (seen : List Record) (rows : List Row)
    (due : Result Due OutOfMemory) : Type 0 where
  late : 2 ^ 32 ≤ second → rows ≡ [] → due ≡ Ok (in_words Clock) → Comes leaf nonce key uri second limit seen rows due
  none : (row : Row) → second < 2 ^ 32 → rows ≡ row ∷ [] → PutsNone row due
      → Comes leaf nonce key uri second limit seen rows due
  put : (row next : Row) → second < 2 ^ 32 → rows ≡ row ∷ next ∷ [] → PutsTicket row
      → next.waiting_left ≤ next.waiting_found → Settles leaf nonce key uri second limit seen next due
      → Comes leaf nonce key uri second limit seen rows due
  again : (row next last : Row) → second < 2 ^ 32 → rows ≡ row ∷ next ∷ last ∷ [] → PutsTicket row
      → ChangesNothing next → PutsAndSettles leaf nonce key uri second limit seen last due
      → Comes leaf nonce key uri second limit seen rows due

-- By the nonce that was drawn, if one was.
abbrev pub ComesOf : Option (List ℕ) → List ℕ → List ℕ → List ℕ → ℕ → ℕ → List Record → List Row
    → Result Due OutOfMemory → Type 0
ComesOf (Some nonce) leaf key uri second limit seen rows due = Comes leaf nonce key uri second limit seen rows due
ComesOf None leaf key uri second limit seen rows due = (rows ≡ []) × (due ≡ Ok (in_words Nonce))

-- A digest is handed in.
pub record Stamping (leaf key uri : List ℕ) (limit : ℕ) (old new : SourcesTold) (seen : List Record) (rows : List Row)
    (due : Result Due OutOfMemory) : Type 0 where
  pub nonce : Option (List ℕ)
  pub draws : Draws nonce old new
  -- the clock's second
  pub second : ℕ
  pub told : IfTold old.second (λ told. second ≡ told)
  pub comes : ComesOf nonce leaf key uri second limit seen rows due
