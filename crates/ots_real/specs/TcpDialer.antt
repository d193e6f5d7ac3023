-- What a dialer of sockets is seen as.
use Rattle.std.specs.Prelude.{◌≡◌, ℕ, List, Option, None, Some, IsSome}
use Rattle.std.specs.declared.time.Duration.{Duration}
use Rattle.ots_outside.specs.Dialer.{DialerTold, Connection, unconnected, connected}
use Rattle.ots_real.specs.SlotTable.{slot_at}
use Rattle.ots_real.specs.Sockets.{link_stream, open_bytes, read_limit, write_limit}
use Rattle.ots_real.specs.TimeLimit.{limit_began, limit_length}
use Rattle.ots_real.specs.declared.tcp_link.TcpLink.{TcpLink}
use Rattle.ots_real.specs.declared.tcp_dialer.TcpDialer.{TcpDialer}

-- What a slot is connected to that holds a link, or none. A link tells nothing, not even where its entry would stand.
abbrev pub connection_of : {C S : Type 0} → Option (TcpLink C S) → Connection
connection_of None = unconnected
connection_of (Some link) = connected None 0

-- What `view` reads of the stream of a link that a slot holds.
abbrev pub of_stream : {C S : Type 0} → (S → Option (List ℕ)) → Option (TcpLink C S) → Option (List ℕ)
of_stream view None = None
of_stream view (Some link) = open_bytes view (link_stream link)

-- A dialer of sockets tells which slots are connected, and nothing else.
abbrev pub dialer_told : {R S L : Type 0} → TcpDialer R S L → DialerTold
dialer_told dialer = record {
  replies = None;
  sent = None;
  slots = slot_at unconnected connection_of
      dialer.links.items;
}

-- How often its calls have failed.
abbrev pub dial_faults : {R S L : Type 0} → TcpDialer R S L → ℕ
dial_faults dialer = dialer.faults

-- The link that a slot holds, or none.
abbrev pub link_at : {R S L : Type 0} → TcpDialer R S L → ℕ → Option (TcpLink R S)
link_at dialer slot = slot_at None (λ link. link) dialer.links.items slot

-- The time limit of its conversations.
abbrev pub dial_limit : {R S L : Type 0} → TcpDialer R S L → Duration
dial_limit dialer = dialer.limit

-- A link has one limit of this length for all its calls, which has begun.
pub record HasOneLimit {C S : Type 0} (whole : Duration) (link : TcpLink C S) : Type 0 where
  pub length : limit_length (read_limit link) ≡ whole
  pub began : IsSome (limit_began (read_limit link))
  pub one : write_limit link ≡ read_limit link
