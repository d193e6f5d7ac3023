-- One connection, from its request to its reply.
use Rattle.std.specs.Prelude.{◌≡◌, ℕ, List, [], ◌∷◌, Result, Ok, Err, IfOk}
use Rattle.ots_base.specs.Cause.{Rose}
use Rattle.ots_base.specs.Told.{IfTold}
use Rattle.ots_base.specs.declared.out_of_memory.OutOfMemory.{OutOfMemory}
use Rattle.ots_calendar.specs.Answer.{answer}
use Rattle.ots_http.specs.RequestRead.{IsRequestAnswer}
use Rattle.ots_http.specs.declared.request.Request.{Request}
use Rattle.ots_http.specs.declared.request.Request.TheVariants.{Digest, Timestamp, Records, Refused}
use Rattle.ots_http.specs.declared.request.RequestError.{RequestError}
use Rattle.ots_http.specs.declared.request.RequestError.TheVariants as unread
use Rattle.ots_round.specs.declared.ticket.Receipt.{Receipt}
use Rattle.ots_shared.specs.Told.{PassTold}
use Rattle.ots_shared.specs.declared.row.Row.{Row}
use Rattle.ots_store.specs.Page.{page_of}
use Rattle.ots_store.specs.Records.{Record}
use Rattle.ots_connection.specs.declared.due.Due.{Due}
use Rattle.ots_connection.specs.declared.served.Served.{Served}
use Rattle.ots_connection.specs.declared.served.Served.TheVariants.{Stamped, Replied, Closed, LinkFault}
use Rattle.ots_connection.specs.declared.served.Served.TheVariants.{OutOfMemory as ran_out}
use Rattle.ots_connection.specs.Holds.{ChangesNothing, Holds}
use Rattle.ots_http.specs.ReplyText.{refusal}
use Rattle.ots_connection.specs.Replies.{in_words, answered, paged}
use Rattle.ots_http.specs.Seen.{LinkSeen, Takes}
use Rattle.ots_connection.specs.Sending.{Sends}
use Rattle.ots_connection.specs.Stamping.{SourcesTold, Stamping}

-- What contracts see of all that a call is handed, at one moment.
pub record Seen : Type 0 where
  pub pass : PassTold
  pub link : LinkSeen
  pub sources : SourcesTold

-- What comes of a request, where the calendar's key, its URI and its journal's limit are these, and the call leaves
-- these records seen and made holds with these rows. Nothing is drawn but for a digest. For a commitment or a page the
-- book is held once, and nothing of it changes.
abbrev pub Does : List ℕ → List ℕ → ℕ → Request → SourcesTold → SourcesTold → List Record → List Row
    → Result Due OutOfMemory → Type 0
Does key uri limit (Digest leaf) old new seen rows due = Stamping leaf key uri limit old new seen rows due
Does key uri limit (Timestamp commitment) old new seen rows due = (new ≡ old)
    × ((row : Row) × (rows ≡ row ∷ []) × ChangesNothing row)
    × IfOk due (λ d. d ≡ answered (answer seen commitment))
Does key uri limit (Records number) old new seen rows due = (new ≡ old)
    × ((row : Row) × (rows ≡ row ∷ []) × ChangesNothing row)
    × IfOk due (λ d. d ≡ paged (page_of seen number))
Does key uri limit (Refused status) old new seen rows due = (new ≡ old) × (rows ≡ [])
    × (due ≡ Ok (in_words (refusal status)))

-- What comes of a request, with the rows of the call's holds.
pub record Handles (key uri : List ℕ) (limit : ℕ) (request : Request) (old new : SourcesTold) (pass left : PassTold)
    (due : Result Due OutOfMemory) : Type 0 where
  pub rows : List Row
  pub holds : Holds pass left rows
  pub does : Does key uri limit request old new left.seen rows due

-- How the call ends by what is due: nothing is written where memory ran out.
abbrev pub EndsWith : Result Due OutOfMemory → LinkSeen → LinkSeen → Served → Type 0
EndsWith (Ok due) old new result = Sends due old new result
EndsWith (Err e) old new result = (result ≡ ran_out) × Takes [] old new

-- What holds of the receipt, where a digest was timestamped.
abbrev pub IfStamped : Served → (Receipt → Type 0) → Type 0
IfStamped (Stamped receipt) P = P receipt
IfStamped (Replied status) P = Unit {0}
IfStamped Closed P = Unit {0}
IfStamped LinkFault P = Unit {0}
IfStamped ran_out P = Unit {0}

-- What a request comes to, and its reply.
pub record Replies (key uri : List ℕ) (limit : ℕ) (request : Request) (old new : Seen) (result : Served) : Type 0 where
  pub due : Result Due OutOfMemory
  pub handles : Handles key uri limit request old.sources new.sources old.pass new.pass due
  pub ends : EndsWith due old.link new.link result

-- Without a request nothing is drawn, held or written.
pub record Leaves (old new : Seen) : Type 0 where
  pub pass : new.pass ≡ old.pass
  pub sources : new.sources ≡ old.sources
  pub link : Takes [] old.link new.link

abbrev pub Ends : List ℕ → List ℕ → ℕ → Result Request RequestError → Seen → Seen → Served → Type 0
Ends key uri limit (Ok request) old new result = Replies key uri limit request old new result
Ends key uri limit (Err unread.Closed) old new result = (result ≡ Closed) × Leaves old new
Ends key uri limit (Err unread.LinkFault) old new result = (result ≡ LinkFault) × Rose old.link.faults new.link.faults
    × Leaves old new

-- One connection: the request is that of the link's bytes, where they are told.
pub record Serves (key uri : List ℕ) (limit : ℕ) (old new : Seen) (result : Served) : Type 0 where
  pub request : Result Request RequestError
  pub reads : IfTold old.link.told (λ link. IsRequestAnswer link.left request)
  pub ends : Ends key uri limit request old new result
