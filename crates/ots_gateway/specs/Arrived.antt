-- What is known of a link once its request was read, for the code.
use Rattle.std.specs.Prelude.{◌≡◌, ◌≤◌, List, [], ◌∷◌, Ok}
use Rattle.ots_http.specs.ReplyText.{refusal}
use Rattle.ots_http.specs.Seen.{LinkSeen, Takes}
use Rattle.ots_http.specs.declared.request.Request.{Request}
use Rattle.ots_http.specs.declared.request.Request.TheVariants.{Digest, Timestamp, Records, Refused}
use Rattle.ots_http.specs.declared.word.Word.{Word}
use Rattle.ots_http.specs.declared.word.Word.TheVariants.{NotFound, Nonce}
use Rattle.ots_gateway.specs.Round.{Heard, digest, no_nonce, other, too_few, Reads, Serves}
use Rattle.ots_gateway.specs.declared.arrived.Arrived.{Arrived}
use Rattle.ots_gateway.specs.declared.arrived.Arrived.TheVariants as arrived
use Rattle.ots_gateway.specs.declared.served.GateServed.{GateServed}
use Rattle.ots_gateway.specs.declared.waiting.Waiting.{Waiting}
use Rattle.ots_gateway.specs.declared.served.GateServed.TheVariants.{Replied, Closed, LinkFault}

-- The words for a request. A digest has such only where a call for a nonce failed.
abbrev pub HasWords : Request → Type 0 → Word → Type 0
HasWords (Digest leaf) failed word = (word ≡ Nonce) × failed
HasWords (Timestamp commitment) failed word = word ≡ NotFound
HasWords (Records number) failed word = word ≡ NotFound
HasWords (Refused status) failed word = word ≡ refusal status

-- The link is served, and does not wait.
abbrev pub IsServed : Arrived → GateServed → Type 0
IsServed (arrived.Waits w) served = ⊥
IsServed (arrived.Replied status) served = served ≡ Replied status
IsServed arrived.Closed served = served ≡ Closed
IsServed arrived.LinkFault served = served ≡ LinkFault

-- A digest waits, and nothing was written yet; or the link was served at once.
abbrev pub IsHeard : Heard → LinkSeen → LinkSeen → Arrived → Type 0
IsHeard (digest w) old new a = (a ≡ arrived.Waits w) × Reads old (Ok (Digest w.digest)) × Takes [] old new
    × (old.faults ≤ new.faults)
IsHeard (no_nonce leaf) old new a = (served : GateServed) × IsServed a served
    × Serves too_few 0 (no_nonce leaf) old new served
IsHeard (other request) old new a = (served : GateServed) × IsServed a served
    × Serves too_few 0 (other request) old new served

abbrev pub HearAll : List Heard → List LinkSeen → List LinkSeen → List Arrived → Type 0
HearAll [] [] [] [] = Unit {0}
HearAll (h ∷ heard) (old ∷ olds) (new ∷ news) (a ∷ arrived) = IsHeard h old new a × HearAll heard olds news arrived
HearAll heard olds news arrived = ⊥

-- The digests that wait, in order.
abbrev pub waiting_in : List Arrived → List Waiting
waiting_in [] = []
waiting_in (arrived.Waits w ∷ rest) = w ∷ waiting_in rest
waiting_in (arrived.Replied status ∷ rest) = waiting_in rest
waiting_in (arrived.Closed ∷ rest) = waiting_in rest
waiting_in (arrived.LinkFault ∷ rest) = waiting_in rest
