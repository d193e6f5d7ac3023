-- What the forms over sockets are seen as.
use Rattle.std.specs.Prelude.{◌≡◌, ℕ, List, Bool, Option, None, Some, Result, OnOk, IsErr, IsSome, is_some}
use Rattle.std.specs.declared.time.Duration.{Duration}
use Rattle.ots_real.specs.TimeLimit.{limit_began, limit_timeout, Runs}
use Rattle.ots_real.specs.declared.time_limit.TimeLimit.{TimeLimit}
use Rattle.ots_real.specs.declared.timed_stream.TimedStream.{TimedStream}
use Rattle.ots_real.specs.declared.tcp_accepter.TcpAccepter.{TcpAccepter}
use Rattle.ots_real.specs.declared.tcp_link.TcpLink.{TcpLink}

-- The stream of a conversation that is to end in time, where it is not closed.
abbrev pub inner_stream : {C S : Type 0} → TimedStream C S → Option S
inner_stream timed = timed.stream

-- The time limits of its reads and of its writes.
abbrev pub inner_reads : {C S : Type 0} → TimedStream C S → TimeLimit
inner_reads timed = timed.reads

abbrev pub inner_writes : {C S : Type 0} → TimedStream C S → TimeLimit
inner_writes timed = timed.writes

-- What `view` reads of a stream; of a closed one nothing is known.
abbrev pub open_bytes : {S : Type 0} → (S → Option (List ℕ)) → Option S → Option (List ℕ)
open_bytes view None = None
open_bytes view (Some stream) = view stream

-- The stream of a link, where it is not closed.
abbrev pub link_stream : {C S : Type 0} → TcpLink C S → Option S
link_stream link = inner_stream link.stream

-- The time limits of a link's reads and of its writes.
abbrev pub read_limit : {C S : Type 0} → TcpLink C S → TimeLimit
read_limit link = inner_reads link.stream

abbrev pub write_limit : {C S : Type 0} → TcpLink C S → TimeLimit
write_limit link = inner_writes link.stream

-- How often a call of the link has failed.
abbrev pub link_faults : {C S : Type 0} → TcpLink C S → ℕ
link_faults link = link.faults

-- What a call of a conversation does to its time: the limit of its own way runs, an answer comes only once it has
-- begun and the socket was given a timeout, the other way's limit stays, a stream stays open, and a closed one answers
-- nothing.
pub record KeepsTime {S Answer Failure : Type 0}
    (stream stream_after : Option S)
    (own own_after other other_after : TimeLimit)
    (result : Result Answer Failure) : Type 0 where
  pub runs : Runs own own_after
  pub begun : OnOk result (IsSome (limit_began own_after))
  pub timeout : OnOk result (IsSome (limit_timeout own_after))
  pub other_way : other_after ≡ other
  pub stays_open : is_some stream_after ≡ is_some stream
  pub closed : stream ≡ None → IsErr result

-- How many links an accepter has answered.
abbrev pub accept_count : {R S L : Type 0} → TcpAccepter R S L → ℕ
accept_count accepter = accepter.accepted

-- How often a call of the accepter has failed.
abbrev pub accept_faults : {R S L : Type 0} → TcpAccepter R S L → ℕ
accept_faults accepter = accepter.faults

-- The time limits of the requests that it takes and of the replies to them.
abbrev pub request_limit : {R S L : Type 0} → TcpAccepter R S L → Duration
request_limit accepter = accepter.request_limit

abbrev pub reply_limit : {R S L : Type 0} → TcpAccepter R S L → Duration
reply_limit accepter = accepter.reply_limit

-- It listens on a port.
abbrev pub is_listening : {R S L : Type 0} → TcpAccepter R S L → Bool
is_listening accepter = is_some accepter.listener
