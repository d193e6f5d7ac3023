-- The command `serve`.
use Rattle.std.specs.Prelude.{◌≡◌, ◌⊎◌, ℕ, List, [], ◌++◌, Option, Some, None, Result, Ok, Err, ◌∷◌}
use Rattle.ots_opening.specs.Images.{StandsAfter}
use Rattle.ots_outside.specs.Link.{LinkTold}
use Rattle.ots_outside.specs.Streams.{Takes, TakesPrefix}
use Rattle.ots_store.specs.Order.{records_of}
use Rattle.ots_workers.specs.Returned.{AllWithin}
use Rattle.ots_journal.specs.declared.entry.Entry.{Entry}
use Rattle.ots_calendar_text.specs.Lines.{listening_line, served_line}
use Rattle.ots_calendar_text.specs.Refusal.{refusal_text}
use Rattle.ots_calendar_text.specs.declared.status.DaemonStatus.{DaemonStatus}
use Rattle.ots_calendar_text.specs.declared.status.DaemonStatus.TheVariants.{Done, WriteFault, OutOfMemory, AcceptFault}
use Rattle.ots_calendar_words.specs.Words.{ServingAsked}
use Rattle.ots_workers.specs.declared.serving.ServeEnd.{ServeEnd as Served}
use Rattle.ots_workers.specs.declared.serving.ServeEnd.TheVariants as ended
use Rattle.ots_calendar_endings.specs.RunEnd.{RunEnd, declined}
use Rattle.ots_calendar_endings.specs.Printed.{PrintsLast}
use Rattle.ots_base.specs.Cause.{Rose}
use Rattle.ots_inputs.specs.Under.{HasUnder}
use Rattle.ots_outside.specs.Shelf.{Names}
use Rattle.ots_calendar_inputs.specs.Address.{IsOneAddress}
use Rattle.ots_calendar_inputs.specs.Key.{GivesKey, RefusesKey}
use Rattle.ots_calendar_endings.specs.Found.{HasSomeBook}
use Rattle.ots_calendar_endings.specs.Moments.{AddsNothing}
use Rattle.ots_calendar_endings.specs.Ran.{Meaning}
use Rattle.ots_calendar_endings.specs.Told.{Told}
use Rattle.ots_calendar_endings.specs.With.{WithBook, WithInput, WithUri}

-- What an accepter tells: whether serving is over, where it was asked for so many links or for all; that each link that
-- was given back is answered; that an accept failed; and how many links were accepted.
pub record LinksTold : Type 1 where
  pub over : Option ℕ → Type 0
  pub answered : Type 0
  pub failed : Type 0
  pub accepted : ℕ

-- How serving ended: no link is to come or as many were accepted as were asked for, and each link that was given back
-- is answered; or the accepter has counted a fault; or memory ran out.
pub data EndsServing (over answered failed : Type 0) (s : DaemonStatus) : Type 0 where
  is_done : over → answered → s ≡ Done → EndsServing over answered failed s
  accept_failed : failed → s ≡ AcceptFault → EndsServing over answered failed s
  no_memory : s ≡ OutOfMemory → EndsServing over answered failed s

-- the status of serving that ended so
abbrev pub serving_status : Served → DaemonStatus
serving_status ended.Done = Done
serving_status ended.AcceptFault = AcceptFault
serving_status ended.OutOfMemory = OutOfMemory

-- what is printed where serving has ended: how many links were accepted, and the line of a refusal
abbrev pub ended_text : ℕ → DaemonStatus → List ℕ
ended_text count s = served_line count ++ refusal_text [] s

-- It could not listen, or the port could not be printed, and then the journal holds what was found. Else it served, and
-- what the journal holds then is said apart.
pub data ServeAnswers (over : Option ℕ → Type 0) (answered failed printing : Type 0) (count : ℕ) (asked : ServingAsked)
    (gate : ℕ) (entries : List Entry) (e : RunEnd) : Type 0 where
  not_listening : failed → e ≡ declined entries AcceptFault → ServeAnswers over answered failed printing count asked
      gate entries e
  not_printed : printing → e ≡ record { status = WriteFault; text = listening_line asked.port; entries = Some entries }
      → ServeAnswers over answered failed printing count asked gate entries e
  served : (s : DaemonStatus) → EndsServing (over asked.accept) answered failed s
      → e ≡ record { status = s; text = listening_line asked.port ++ ended_text count s; entries = None }
      → ServeAnswers over answered failed printing count asked gate entries e

-- What comes of listening: the port is printed, or the run ends.
abbrev pub Listens : ℕ → Type 0 → Type 0 → Option (List ℕ) → Option (List ℕ) → Result (Unit {0}) DaemonStatus → Type 0
Listens port failed printing taken now (Ok x) = Takes taken now (listening_line port)
Listens port failed printing taken now (Err s) =
    (printing × TakesPrefix taken now (listening_line port) × (s ≡ WriteFault))
    ⊎ (failed × PrintsLast printing AcceptFault (refusal_text [] AcceptFault) taken now s)

-- Serving ended so, and that is printed last.
pub record Tells (over answered failed printing : Type 0) (count : ℕ) (taken now : Option (List ℕ))
    (r : DaemonStatus) : Type 0 where
  pub status : DaemonStatus
  pub ends : EndsServing over answered failed status
  pub printed : PrintsLast printing status (ended_text count status) taken now r

-- The same by what an accepter tells.
abbrev pub ServesAs : LinksTold → Type 0 → ServingAsked → ℕ → List Entry → RunEnd → Type 0
ServesAs links printing asked = ServeAnswers links.over links.answered links.failed printing links.accepted asked

abbrev pub TellsAs : LinksTold → Option ℕ → Type 0 → Option (List ℕ) → Option (List ℕ) → DaemonStatus → Type 0
TellsAs links most printing taken now r =
    Tells (links.over most) links.answered links.failed printing links.accepted taken now r

-- Each link was answered by records with which those of every image of the disk begin: so each commitment that was
-- acknowledged is in all of them.
pub record Acknowledges {L : Type 0} (told : L → Option LinkTold) (faults : L → ℕ) (links : Option (List L))
    (images : List ℕ → Type 0) : Type 0 where
  pub entries : List Entry
  pub answered : AllWithin (records_of entries) told faults links
  pub kept : (c : List ℕ) → images c → StandsAfter entries c

-- the address and the key file
abbrev pub WithService : Option Names → ServingAsked → (List ℕ → List ℕ → RunEnd → Type 0) → RunEnd → Type 0
WithService names asked goes_on = WithUri asked.uri (λ uri. WithInput names asked.key GivesKey RefusesKey (goes_on uri))

-- What serving names is in order.
pub record HasService (names : Option Names) (asked : ServingAsked) : Type 0 where
  pub uri : List ℕ
  pub one : IsOneAddress asked.uri uri
  pub key : List ℕ
  pub has_key : HasUnder names asked.key (λ bytes. GivesKey bytes key)

-- Connections may be served: all that the words name is in order, and a book was opened.
abbrev pub MayServe : Option Names → Option (List ℕ) → ServingAsked → Type 0
MayServe names told asked = HasService names asked × HasSomeBook told

-- It reads the key file, and then opens the journal. It draws a nonce for each link.
abbrev pub serve_meaning : LinksTold → ServingAsked → Told → Told → Meaning
serve_meaning links asked old new = record {
  reads = asked.key ∷ [];
  answers = WithService old.shelf.names asked (λ uri key. WithBook old.bytes
      (ServesAs links (Rose old.sink_faults new.sink_faults) asked));
  adds = AddsNothing;
  ready = HasService old.shelf.names asked;
  draws = MayServe old.shelf.names old.bytes asked;
  serves = MayServe old.shelf.names old.bytes asked;
}
