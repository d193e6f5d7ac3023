-- A round of a gateway: what is heard of its links, what calendars are asked, and what each link is answered.
use Rattle.std.specs.Prelude.{◌≡◌, ◌≤◌, ◌<◌, ◌⊎◌, ℕ, ◌+◌, ◌-◌, ◌^◌, min, List, [], ◌∷◌, length, map, take, Option}
use Rattle.std.specs.Prelude.{Result, Ok, Err}
use Rattle.std.specs.List.{flat_map}
use Rattle.ots_base.specs.Cause.{Rose}
use Rattle.ots_base.specs.Told.{IfTold}
use Rattle.ots_address.specs.Address.{AddressParts}
use Rattle.ots_http.specs.ReplyText.{refusal, reply_bytes, status_of}
use Rattle.ots_http.specs.RequestRead.{IsRequestAnswer}
use Rattle.ots_http.specs.Seen.{LinkSeen, Takes}
use Rattle.ots_http.specs.declared.replying.Reply.{Reply}
use Rattle.ots_http.specs.declared.replying.Reply.TheVariants as reply
use Rattle.ots_http.specs.declared.request.Request.{Request}
use Rattle.ots_http.specs.declared.request.Request.TheVariants.{Digest, Timestamp, Records, Refused}
use Rattle.ots_http.specs.declared.request.RequestError.{RequestError}
use Rattle.ots_http.specs.declared.request.RequestError.TheVariants as unread
use Rattle.ots_http.specs.declared.word.Word.{Word}
use Rattle.ots_http.specs.declared.word.Word.TheVariants.{NotFound, Nonce, Upstream}
use Rattle.ots_merkle.specs.CalendarTree.{root}
use Rattle.ots_outside.specs.Dialer.{DialerTold}
use Rattle.ots_outside.specs.Streams.{Gives}
use Rattle.ots_tree.specs.Made.{chain}
use Rattle.ots_tree.specs.Wire.{Node, pre}
use Rattle.ots_tree.specs.declared.token.Token.{Token}
use Rattle.ots_asking.specs.Conversation.{Converse}
use Rattle.ots_asking.specs.Outcome.{AreSound}
use Rattle.ots_stamp.specs.Stamped.{AreJoined, good_trees}
use Rattle.ots_stamp.specs.Stamping.{to_stamp}
use Rattle.ots_stamp.specs.Ways.{IsDepth, way_from}
use Rattle.ots_asking.specs.declared.outcome.Outcome.{Outcome}
use Rattle.ots_gateway.specs.Taking.{taking}
use Rattle.ots_gateway.specs.Ways.{IsLongestWay, leaves}
use Rattle.ots_gateway.specs.declared.served.GateServed.{GateServed}
use Rattle.ots_gateway.specs.declared.served.GateServed.TheVariants.{Stamped, Replied, Closed, LinkFault}
use Rattle.ots_gateway.specs.declared.waiting.Waiting.{Waiting}

-- ---- what is heard

-- What is heard of a link: a digest, with the nonce that was drawn for it; a digest for which none could be drawn; or
-- another request, or that there was none.
pub data Heard : Type 0 where
  digest : Waiting → Heard
  no_nonce : List ℕ → Heard
  other : Result Request RequestError → Heard

-- The digests among what was heard, in order.
abbrev pub waiting_of : List Heard → List Waiting
waiting_of [] = []
waiting_of (digest w ∷ heard) = w ∷ waiting_of heard
waiting_of (no_nonce leaf ∷ heard) = waiting_of heard
waiting_of (other request ∷ heard) = waiting_of heard

-- How many digests got no nonce.
abbrev pub without_nonce : List Heard → ℕ
without_nonce [] = 0
without_nonce (digest w ∷ heard) = without_nonce heard
without_nonce (no_nonce leaf ∷ heard) = without_nonce heard + 1
without_nonce (other request ∷ heard) = without_nonce heard

-- Of nonces, the bytes to come, where they are told, and how often a call has failed.
pub record NoncesSeen : Type 0 where
  pub left : Option (List ℕ)
  pub faults : ℕ

-- A count rose by so many, or stands at its last value, 2^64 - 1.
abbrev pub RoseBy : ℕ → ℕ → ℕ → Type 0
RoseBy many before now = min (before + many) (2 ^ 64 - 1) ≤ now

-- The nonces of these digests were drawn, in order, and a call failed for each digest that got none.
pub record Draws (heard : List Heard) (old new : NoncesSeen) : Type 0 where
  pub drawn : Gives old.left new.left (flat_map (λ (w : Waiting). w.nonce) (waiting_of heard))
  pub later : old.faults ≤ new.faults
  pub cause : RoseBy (without_nonce heard) old.faults new.faults

-- ---- what calendars are asked

-- What a round gives to its digests: too few calendars answered; or to each the way from it to the root over these
-- leaves, and below it this node.
pub data Given : Type 0 where
  too_few : Given
  below : List (List ℕ) → Node → Given

-- By the trees that are taken, of which there are to be so many: the node has their items, in order.
abbrev pub IsGiven : ℕ → List (List ℕ) → List (List Token) → Given → Type 0
IsGiven least leaves trees too_few = length trees < least
IsGiven least leaves trees (below over node) = (least ≤ length trees) × (over ≡ leaves)
    × ((nodes : List Node) × (map pre nodes ≡ trees) × AreJoined nodes node)

-- The calendars are asked for the root over the leaves of the digests that wait, in conversations one after the other;
-- of the trees that they answered those are taken that fit below the longest way. Nobody is asked where none waits.
pub data Asks {D : Type 0} (told : D → DialerTold) (faults : D → ℕ) (calendars : List AddressParts) (least : ℕ)
    (leaves : List (List ℕ)) (old new : D) (outcomes : List Outcome) (given : Given) : Type 0 where
  nobody : leaves ≡ [] → new ≡ old → outcomes ≡ [] → given ≡ too_few
      → Asks told faults calendars least leaves old new outcomes given
  asked : (depth size : ℕ) (answered : List Outcome) → 1 ≤ length leaves → IsDepth leaves depth
      → Converse told faults (map (to_stamp (root leaves) depth) calendars) old new answered
      → AreSound (length (root leaves)) depth answered → IsLongestWay leaves size → outcomes ≡ taking size answered
      → IsGiven least leaves (good_trees outcomes) given
      → Asks told faults calendars least leaves old new outcomes given

-- ---- what each link is answered

-- The reply with these words, and the status that they stand with.
abbrev pub in_words : Word → Reply
in_words word = reply.Text (status_of word) word

-- The tree of the digest at this place: its way to the root over these leaves, and below it this node.
abbrev pub tree_from : List (List ℕ) → Node → ℕ → List ℕ → List Token
tree_from over node i nonce = pre (chain (way_from over i nonce) node)

-- The reply to the digest that waits at this place.
abbrev pub due : Given → ℕ → Waiting → Reply
due too_few i w = in_words Upstream
due (below over node) i w = reply.Tree (tree_from over node i w.nonce)

-- How a link is served whose reply was written.
abbrev pub served_by : Reply → GateServed
served_by (reply.Tree tree) = Stamped tree
served_by (reply.Page bytes) = Replied 200
served_by (reply.Text status word) = Replied status

-- The reply was written whole, or a call of the link failed, and a prefix of it was written.
pub data Sends (reply : Reply) (old new : LinkSeen) (served : GateServed) : Type 0 where
  whole : served ≡ served_by reply → Takes (reply_bytes reply) old new → Sends reply old new served
  cut : (n : ℕ) → n ≤ length (reply_bytes reply) → served ≡ LinkFault → Rose old.faults new.faults
      → Takes (take n (reply_bytes reply)) old new
      → Sends reply old new served

-- The request is that of the link's bytes, where they are told.
abbrev pub Reads : LinkSeen → Result Request RequestError → Type 0
Reads old request = IfTold old.told (λ link. IsRequestAnswer link.left request)

-- A request that is no digest is answered in words, and nothing is written where there was none.
abbrev pub Answers : Result Request RequestError → LinkSeen → LinkSeen → GateServed → Type 0
Answers (Ok (Digest leaf)) old new served = ⊥
Answers (Ok (Timestamp commitment)) old new served = Sends (in_words NotFound) old new served
Answers (Ok (Records number)) old new served = Sends (in_words NotFound) old new served
Answers (Ok (Refused status)) old new served = Sends (in_words (refusal status)) old new served
Answers (Err unread.Closed) old new served = (served ≡ Closed) × Takes [] old new
Answers (Err unread.LinkFault) old new served = (served ≡ LinkFault) × Rose old.faults new.faults × Takes [] old new

-- A link is served by what was heard of it, and by its place among the digests that wait.
abbrev pub Serves : Given → ℕ → Heard → LinkSeen → LinkSeen → GateServed → Type 0
Serves given i (digest w) old new served = Reads old (Ok (Digest w.digest)) × Sends (due given i w) old new served
Serves given i (no_nonce leaf) old new served = Reads old (Ok (Digest leaf)) × Sends (in_words Nonce) old new served
Serves given i (other request) old new served = Reads old request × Answers request old new served

-- the place of the next digest
abbrev pub next : Heard → ℕ → ℕ
next (digest w) i = i + 1
next (no_nonce leaf) i = i
next (other request) i = i

-- Each link is served, in order; the next digest has place i.
abbrev pub ServeAll : Given → ℕ → List Heard → List LinkSeen → List LinkSeen → List GateServed → Type 0
ServeAll given i [] [] [] [] = Unit {0}
ServeAll given i (h ∷ heard) (old ∷ olds) (new ∷ news) (s ∷ served) = Serves given i h old new s
    × ServeAll given (next h i) heard olds news served
ServeAll given i heard olds news served = ⊥

-- A round.
pub record IsRound {D : Type 0} (told : D → DialerTold) (faults : D → ℕ) (calendars : List AddressParts) (least : ℕ)
    (links left : List LinkSeen) (nonces after : NoncesSeen) (old new : D) (served : List GateServed)
    (outcomes : List Outcome) : Type 0 where
  pub heard : List Heard
  pub draws : Draws heard nonces after
  pub given : Given
  pub asks : Asks told faults calendars least (leaves (waiting_of heard)) old new outcomes given
  pub serves : ServeAll given 0 heard links left served

-- ---- where memory ran out

-- A link has taken nothing, or it was served.
abbrev pub MayServe : LinkSeen → LinkSeen → Type 0
MayServe old new = Takes [] old new ⊎ ((given : Given) × (i : ℕ) × (h : Heard) × (served : GateServed)
    × Serves given i h old new served)

abbrev pub EachMayServe : List LinkSeen → List LinkSeen → Type 0
EachMayServe [] [] = Unit {0}
EachMayServe [] (new ∷ news) = ⊥
EachMayServe (old ∷ olds) [] = ⊥
EachMayServe (old ∷ olds) (new ∷ news) = MayServe old new × EachMayServe olds news
