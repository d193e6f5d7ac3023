-- What a reply's bytes are to a client. Source: the table of this project's HTTP profile, of which the first line that
-- fits decides.
use Rattle.std.specs.Prelude.{◌≡◌, ℕ, nat_eq, nat_lt, List, length, take, if◌then◌else◌, Result, Ok, Err}
use Rattle.httparse.specs.Grammar.{ResponseHead, status_code}
use Rattle.ots_base.specs.declared.limits.TheConstants.{MAX_REPLY_BODY}
use Rattle.ots_http.specs.declared.fields.StatedLength.{StatedLength}
use Rattle.ots_http.specs.declared.fields.StatedLength.TheVariants.{Absent, Malformed, TooGreat, Length}
use Rattle.ots_http.specs.declared.reply.HttpReply.{HttpReply}
use Rattle.ots_http.specs.declared.reply.HttpReply.TheVariants.{Good, Status}
use Rattle.ots_http.specs.declared.reply.ReplyError.{ReplyError}
use Rattle.ots_http.specs.declared.reply.ReplyError.TheVariants.{TooLong, BadHttp, LinkFault, OutOfMemory}
use Rattle.ots_http.specs.Head.{HasReplyHead, HasNoReplyHead}
use Rattle.ots_http.specs.Fields.{NameAndValue, names_and_values, body_length}

pub data ReplyOutcome : Type 0 where
  good : List ℕ → ReplyOutcome
  status : ℕ → ReplyOutcome
  too_long bad_http : ReplyOutcome

-- Status 200: by the length that is stated and what follows the head.
abbrev pub outcome_of_body : List ℕ → StatedLength → ReplyOutcome
outcome_of_body body Absent = if nat_lt MAX_REPLY_BODY (length body) then too_long else good body
outcome_of_body body Malformed = bad_http
outcome_of_body body TooGreat = too_long
outcome_of_body body (Length n) = if nat_lt (length body) n then bad_http else good (take n body)

-- The outcome by the parts of a head and what follows it.
abbrev pub outcome_by : ℕ → List NameAndValue → List ℕ → ReplyOutcome
outcome_by code fields body = if nat_eq code 200 then outcome_of_body body (body_length MAX_REPLY_BODY fields)
    else status code

-- The outcome of a whole input: by its head, or BadHttp where no prefix of it is a head.
pub data IsOutcome (input : List ℕ) (outcome : ReplyOutcome) : Type 0 where
  by_head : (h : ResponseHead) (body : List ℕ) → HasReplyHead input h body
      → outcome ≡ outcome_by (status_code h) (names_and_values h.fields) body → IsOutcome input outcome
  no_head : HasNoReplyHead input → outcome ≡ bad_http → IsOutcome input outcome

-- The answer to an input. A fault of the link and want of memory may come in its place.
abbrev pub IsReplyAnswer : List ℕ → Result HttpReply ReplyError → Type 0
IsReplyAnswer input (Ok (Good body)) = IsOutcome input (good body)
IsReplyAnswer input (Ok (Status n)) = IsOutcome input (status n)
IsReplyAnswer input (Err TooLong) = IsOutcome input too_long
IsReplyAnswer input (Err BadHttp) = IsOutcome input bad_http
IsReplyAnswer input (Err LinkFault) = Unit {0}
IsReplyAnswer input (Err OutOfMemory) = Unit {0}
