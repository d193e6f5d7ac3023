-- What closing a round does.
use Rattle.std.specs.Prelude.{◌≡◌, ◌⊎◌, ◌<◌, ℕ, List, [], ◌∷◌, ◌++◌, length, Option, None, Some, Result, Ok, Err}
use Rattle.ots_journal.specs.declared.errors.AppendError.{AppendError}
use Rattle.ots_journal.specs.declared.errors.AppendError.TheVariants.{OutOfMemory}
use Rattle.ots_round.specs.Round.{round_commitment}
use Rattle.ots_store.specs.Records.{CommitRecord, entry_of}
use Rattle.ots_store.specs.Store.{Adds}
use Rattle.ots_tickets.specs.Tickets.{TicketsTold, settles}
use Rattle.ots_calendar.specs.Book.{BookTold}

-- what becomes of the tickets: all that waited are settled where the commitment is stored, or all wait as before
abbrev pub RoundLeaves : List ℕ → ℕ → TicketsTold → TicketsTold → Result ℕ AppendError → Type 0
RoundLeaves key second old new (Ok index) = (new.waiting ≡ [])
    × (new.settled ≡ old.settled ++ settles key second index old.waiting)
RoundLeaves key second old new (Err why) = (new.waiting ≡ old.waiting) × (new.settled ≡ old.settled)

-- the answer, by how the commitment was added
abbrev pub round_answer : Result ℕ AppendError → Result (Option ℕ) AppendError
round_answer (Ok index) = Ok (Some index)
round_answer (Err why) = Err why

-- One commitment over all that wait is added.
pub record ClosesRound {D : Type 0} (bytes : D → Option (List ℕ)) (clock : D → ℕ)
    (images_since : D → ℕ → List ℕ → Type 0) (key : List ℕ) (second : ℕ) (old new : BookTold D)
    (result : Result (Option ℕ) AppendError) : Type 0 where
  pub some : 0 < length old.tickets.waiting
  pub added : Result ℕ AppendError
  pub adds : Adds bytes clock images_since old.store.journal new.store.journal
      (entry_of (CommitRecord (round_commitment key second old.tickets.waiting)) ∷ []) added
  pub leaves : RoundLeaves key second old.tickets new.tickets added
  pub answer : result ≡ round_answer added

-- Memory ran out before anything was done.
pub record ClosesNone {D : Type 0} (old new : BookTold D) (result : Result (Option ℕ) AppendError) : Type 0 where
  pub store : new.store ≡ old.store
  pub waiting : new.tickets.waiting ≡ old.tickets.waiting
  pub settled : new.tickets.settled ≡ old.tickets.settled
  pub answer : result ≡ Err OutOfMemory

-- Nothing waits, and nothing is done.
pub record ClosesNothing {D : Type 0} (old new : BookTold D) (result : Result (Option ℕ) AppendError) : Type 0 where
  pub nothing : old.tickets.waiting ≡ []
  pub store : new.store ≡ old.store
  pub waiting : new.tickets.waiting ≡ old.tickets.waiting
  pub settled : new.tickets.settled ≡ old.tickets.settled
  pub answer : result ≡ Ok None

abbrev pub Closes : {D : Type 0} → (D → Option (List ℕ)) → (D → ℕ) → (D → ℕ → List ℕ → Type 0) → List ℕ → ℕ → BookTold D
    → BookTold D → Result (Option ℕ) AppendError → Type 0
Closes bytes clock images_since key second old new result = ClosesRound bytes clock images_since key second old new
    result ⊎ ClosesNothing old new result ⊎ ClosesNone old new result
