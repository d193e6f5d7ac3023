-- One round of a run, for the code.
use Rattle.std.specs.Prelude.{◌≡◌, ℕ, List, map, Option, None, Some, Result, Ok, Err}
use Rattle.ots_address.specs.Address.{AddressParts}
use Rattle.ots_gateway.specs.Round.{EachMayServe}
use Rattle.ots_gateway_words.specs.Lines.{round_lines}
use Rattle.ots_gateway_words.specs.declared.status.GateStatus.{GateStatus}
use Rattle.ots_gateway_words.specs.declared.status.GateStatus.TheVariants.{AcceptFault, Done, OutOfMemory, WriteFault}
use Rattle.ots_outside.specs.Streams.{Takes, TakesPrefix}
use Rattle.ots_gateway_run.specs.Accepted.{GivesAllBack}
use Rattle.ots_gateway_run.specs.Rounds.{Gathered, IsRoundOf, Moment, Outside, seen, stamped}
use Rattle.ots_gateway_run.specs.declared.accepting.Accepting.{Accepting}
use Rattle.ots_gateway_run.specs.declared.accepting.Accepting.TheVariants.{Full, Over, Fault}

-- the status with which a run ends where no more links are accepted
abbrev pub status_of : Accepting → Option GateStatus
status_of Full = None
status_of Over = Some Done
status_of Fault = Some AcceptFault

-- The links of a round were served and given back, and its lines printed; or these could not be printed; or memory ran
-- out, and each link was given back with nothing, a whole reply or, where it failed, a prefix of it.
pub data ServesOne {A L D : Type 0} (o : Outside A L D) (calendars : List AddressParts) (least : ℕ) (printing : Type 0)
    (links : List L) (old new : Moment A D) (taken now : Option (List ℕ)) (result : Result (Unit {0}) GateStatus)
    : Type 0 where
  printed : (r : Gathered L) → r.links ≡ links
      → IsRoundOf o calendars least r old.dialer new.dialer old.nonces new.nonces
      → GivesAllBack (o.returned old.accepter) r.left (o.returned new.accepter) → result ≡ Ok tt
      → Takes taken now (round_lines calendars r.outcomes (stamped r.served))
      → ServesOne o calendars least printing links old new taken now result
  unprinted : (r : Gathered L) → r.links ≡ links
      → IsRoundOf o calendars least r old.dialer new.dialer old.nonces new.nonces
      → GivesAllBack (o.returned old.accepter) r.left (o.returned new.accepter) → result ≡ Err WriteFault → printing
      → TakesPrefix taken now (round_lines calendars r.outcomes (stamped r.served))
      → ServesOne o calendars least printing links old new taken now result
  lost : (left : List L) → EachMayServe (map (seen o) links) (map (seen o) left)
      → GivesAllBack (o.returned old.accepter) left (o.returned new.accepter) → result ≡ Err OutOfMemory → now ≡ taken
      → ServesOne o calendars least printing links old new taken now result
