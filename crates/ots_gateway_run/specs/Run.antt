-- A whole run.
use Rattle.std.specs.Prelude.{◌≡◌, ◌⊎◌, ℕ, Bool, List, [], ◌++◌, Option, None, Some, Result, Ok, Err}
use Rattle.std.specs.Option.{option_map}
use Rattle.ots_address.specs.Address.{AddressParts}
use Rattle.ots_address.specs.AddressList.{IsBadAddress, IsListOf}
use Rattle.ots_address.specs.declared.list.AddressError.{AddressError}
use Rattle.ots_address.specs.declared.list.AddressError.TheVariants as address
use Rattle.ots_base.specs.Cause.{Rose}
use Rattle.ots_outputs.specs.Printed.{PrintsLastOr}
use Rattle.ots_outside.specs.Streams.{Takes, TakesPrefix}
use Rattle.ots_gateway_words.specs.Lines.{listening_line}
use Rattle.ots_gateway_words.specs.Refusal.{refusal_text}
use Rattle.ots_gateway_words.specs.Words.{Gathering}
use Rattle.ots_gateway_words.specs.declared.status.GateStatus.{GateStatus}
use Rattle.ots_gateway_words.specs.declared.status.GateStatus.TheVariants.{Usage, WriteFault, BadAddress, OutOfMemory}
use Rattle.ots_gateway_words.specs.declared.status.GateStatus.TheVariants.{AcceptFault}
use Rattle.ots_gateway_run.specs.Accepted.{StaysWithin, counted}
use Rattle.ots_gateway_run.specs.Rounds.{Moment, Outside, Passes, RoundsEnd, Serves}

abbrev pub address_status : AddressError → GateStatus
address_status (address.BadAddress place https) = BadAddress place https
address_status address.OutOfMemory = OutOfMemory

-- The count at which no more links are accepted, of so many from this count on.
abbrev pub until_from : ℕ → Option ℕ → Option ℕ
until_from count accept = option_map (counted count) accept

-- an end before the first round
abbrev pub ended : GateStatus → List ℕ → RoundsEnd
ended s lines = record { status = s; lines = lines }

-- What comes of calendars at these addresses: memory ran out for the links of a round, and nothing was done; or the
-- port could not be listened on; or that it is could not be printed; or rounds are served, with what is told of the
-- accepter as before.
pub data OverCalendars {A L D : Type 0} (o : Outside A L D) (asked : Gathering) (calendars : List AddressParts)
    (printing : Type 0) (old new : Moment A D) (e : RoundsEnd) : Type 0 where
  no_room : new ≡ old → e ≡ ended OutOfMemory [] → OverCalendars o asked calendars printing old new e
  unheard : Passes o [] [] old.accepter new.accepter
      → Rose (o.accept_faults old.accepter) (o.accept_faults new.accepter)
      → new.dialer ≡ old.dialer → new.nonces ≡ old.nonces → e ≡ ended AcceptFault []
      → OverCalendars o asked calendars printing old new e
  unprinted : Passes o [] [] old.accepter new.accepter → new.dialer ≡ old.dialer → new.nonces ≡ old.nonces → printing
      → e ≡ ended WriteFault (listening_line asked.port) → OverCalendars o asked calendars printing old new e
  serves : (listening : A) (f : RoundsEnd) → Passes o [] [] old.accepter listening
      → Serves o calendars asked.min asked.round (until_from (o.accepted old.accepter) asked.accept) printing
      (record { accepter = listening; dialer = old.dialer; nonces = old.nonces }) new f
      → StaysWithin (until_from (o.accepted old.accepter) asked.accept) (o.accepted old.accepter)
      (o.accepted new.accepter)
      → e ≡ ended f.status (listening_line asked.port ++ f.lines)
      → OverCalendars o asked calendars printing old new e

-- What comes of what the words ask for: the list of addresses is refused, or the calendars are those.
pub data OverAsked {A L D : Type 0} (o : Outside A L D) (asked : Gathering) (printing : Type 0) (old new : Moment A D)
    (e : RoundsEnd) : Type 0 where
  bad_address : (place : ℕ) (https : Bool) → IsBadAddress asked.calendars place https → new ≡ old
      → e ≡ ended (BadAddress place https) [] → OverAsked o asked printing old new e
  no_address_memory : new ≡ old → e ≡ ended OutOfMemory [] → OverAsked o asked printing old new e
  calendars : (addresses : List AddressParts) → IsListOf asked.calendars addresses
      → OverCalendars o asked addresses printing old new e → OverAsked o asked printing old new e

-- What comes of words.
pub data OverWords {A L D : Type 0} (o : Outside A L D) (asked : Option Gathering) (printing : Type 0)
    (old new : Moment A D) (e : RoundsEnd) : Type 0 where
  usage : asked ≡ None → new ≡ old → e ≡ ended Usage [] → OverWords o asked printing old new e
  no_words_memory : new ≡ old → e ≡ ended OutOfMemory [] → OverWords o asked printing old new e
  asks : (g : Gathering) → asked ≡ Some g → OverAsked o g printing old new e → OverWords o asked printing old new e

-- How a run ended: what is printed are its lines, and then the line of the refusal, where there is one; or the sink
-- failed, and has taken a prefix of that.
pub record Ends {A L D : Type 0} (o : Outside A L D) (asked : Option Gathering) (printing : Type 0)
    (old new : Moment A D) (taken now : Option (List ℕ)) (r : GateStatus) : Type 0 where
  pub ending : RoundsEnd
  pub comes : OverWords o asked printing old new ending
  pub printed : PrintsLastOr WriteFault printing ending.status (ending.lines ++ refusal_text ending.status) taken now r

-- ---- for the code

-- The port is listened on, and that is printed; or the sink failed, and has taken a prefix of that; or an accepter's
-- call failed, and nothing is printed.
abbrev pub Listens : Type 0 → Type 0 → List ℕ → Option (List ℕ) → Option (List ℕ) → Result (Unit {0}) GateStatus
    → Type 0
Listens printing accepting line taken now (Ok u) = Takes taken now line
Listens printing accepting line taken now (Err s) = ((s ≡ WriteFault) × printing × TakesPrefix taken now line)
    ⊎ ((s ≡ AcceptFault) × accepting × (now ≡ taken))
