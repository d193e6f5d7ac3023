-- What a run leaves of each link that it gives back.
use Rattle.std.specs.Prelude.{◌≡◌, ◌<◌, ℕ, List, [], length, take, slice_get, Option, None, Some, Result, Ok, Err}
use Rattle.ots_address.specs.Address.{AddressParts}
use Rattle.ots_asking.specs.declared.outcome.Outcome.{Outcome}
use Rattle.ots_gateway.specs.Round.{Asks, Given, Heard, digest, due, in_words, no_nonce, other, waiting_of}
use Rattle.ots_gateway.specs.Ways.{leaves}
use Rattle.ots_http.specs.ReplyText.{refusal, reply_bytes}
use Rattle.ots_http.specs.RequestRead.{IsRequestAnswer}
use Rattle.ots_http.specs.Seen.{LinkSeen}
use Rattle.ots_http.specs.declared.replying.Reply.{Reply}
use Rattle.ots_http.specs.declared.request.Request.{Request}
use Rattle.ots_http.specs.declared.request.Request.TheVariants.{Digest, Timestamp, Records, Refused}
use Rattle.ots_http.specs.declared.request.RequestError.{RequestError}
use Rattle.ots_http.specs.declared.word.Word.TheVariants.{NotFound, Nonce}
use Rattle.ots_outside.specs.Dialer.{DialerTold}
use Rattle.ots_outside.specs.Link.{LinkTold, whole_input}

-- the request that was heard, or that there was none
abbrev pub request_of : Heard → Result Request RequestError
request_of (digest w) = Ok (Digest w.digest)
request_of (no_nonce leaf) = Ok (Digest leaf)
request_of (other request) = request

-- the reply to what was heard, by its place among the digests that wait, and none where there was no request
abbrev pub reply_to : Given → ℕ → Heard → Option Reply
reply_to given i (digest w) = Some (due given i w)
reply_to given i (no_nonce leaf) = Some (in_words Nonce)
reply_to given i (other (Ok (Digest leaf))) = None
reply_to given i (other (Ok (Timestamp commitment))) = Some (in_words NotFound)
reply_to given i (other (Ok (Records number))) = Some (in_words NotFound)
reply_to given i (other (Ok (Refused status))) = Some (in_words (refusal status))
reply_to given i (other (Err why)) = None

-- In a round, where more may have been heard and calendars been asked, the link's input was read as a request, and the
-- link has taken the whole reply to it.
pub record IsReplied {D : Type 0} (told : D → DialerTold) (faults : D → ℕ) (calendars : List AddressParts) (least : ℕ)
    (link : LinkTold) : Type 0 where
  pub heard : List Heard
  pub place : ℕ
  pub own : Heard
  pub own_is : slice_get heard place ≡ Some own
  pub read : IsRequestAnswer (whole_input link) (request_of own)
  pub before : D
  pub now : D
  pub outcomes : List Outcome
  pub given : Given
  pub asks : Asks told faults calendars least (leaves (waiting_of heard)) before now outcomes given
  pub reply : Reply
  pub reply_is : reply_to given (length (waiting_of (take place heard))) own ≡ Some reply
  pub taken : link.taken ≡ reply_bytes reply

-- A link doesn't tell its bytes, or counts a fault, or had no byte and took none, or took the whole reply to its
-- request.
pub data IsAnswered {D : Type 0} (told : D → DialerTold) (faults : D → ℕ) (calendars : List AddressParts) (least : ℕ)
    (link : LinkSeen) : Type 0 where
  untold : link.told ≡ None → IsAnswered told faults calendars least link
  failed : 0 < link.faults → IsAnswered told faults calendars least link
  empty : (t : LinkTold) → link.told ≡ Some t → whole_input t ≡ [] → t.taken ≡ []
      → IsAnswered told faults calendars least link
  replied : (t : LinkTold) → link.told ≡ Some t → IsReplied told faults calendars least t
      → IsAnswered told faults calendars least link
