-- What a turn of the front answers, and what is served of it.
use Rattle.std.specs.Prelude.{◌≡◌, ℕ, List, length, Bool, Option, Some, None, Result, Ok, Err}
use Rattle.ots_base.specs.Cause.{Rose}
use Rattle.ots_outside.specs.OneNonce.{bytes_of}
use Rattle.ots_outside.specs.Streams.{Gives}
use Rattle.ots_connection.specs.Answered.{is_answer}
use Rattle.ots_connection.specs.Connection.{Serves}
use Rattle.ots_http.specs.Seen.{LinkSeen}
use Rattle.ots_connection.specs.Stamping.{SourcesTold}
use Rattle.ots_connection.specs.declared.served.Served.{Served}
use Rattle.ots_shared.specs.Told.{PassTold}
use Rattle.ots_workers.specs.declared.front.Turn.{Turn}

-- What `accept` answered, where a turn answers this.
abbrev pub accept_answer : {L E : Type 0} → Result (Option (Turn L)) E → Result (Option L) E
accept_answer (Ok (Some turn)) = Ok (Some turn.link)
accept_answer (Ok None) = Ok None
accept_answer (Err error) = Err error

-- The turn that was answered has P, or there is none and Q holds.
abbrev pub MatchTurn : {L E : Type 0} → Result (Option (Turn L)) E → (Turn L → Type 0) → Type 0 → Type 0
MatchTurn (Ok (Some turn)) P Q = P turn
MatchTurn (Ok None) P Q = Q
MatchTurn (Err error) P Q = Q

-- The next 16 bytes were drawn; or none were, and the count of the source's faults rose.
abbrev pub Draws : Option (List ℕ) → Option (List ℕ) → Option (List ℕ) → ℕ → ℕ → Type 0
Draws (Some nonce) old new before now = (length nonce ≡ 16) × Gives old new nonce
Draws None old new before now = (new ≡ old) × Rose before now

-- The connection of the turn was served with the turn's second and nonce. `see` says what contracts see of a link.
pub record ServesTurn {L : Type 0} (see : L → LinkSeen) (key uri : List ℕ) (limit : ℕ) (pass : PassTold)
    (turn : Turn L) (left : PassTold) (link : L) (answered : Bool)
    : Type 0 where
  pub served : Served
  pub sources : SourcesTold
  pub serves : Serves key uri limit
      (record {
        pass = pass;
        link = see turn.link;
        sources = record {
          left = Some (bytes_of turn.nonce.nonce);
          faults = turn.nonce.faults;
          second = Some turn.second;
        };
      })
      (record { pass = left; link = see link; sources = sources }) served
  pub answered_is : answered ≡ is_answer served
