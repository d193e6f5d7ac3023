-- What a dialer in memory tells, and what its calls answer.
use Rattle.std.specs.Prelude.{ℕ, ◌+◌, ◌-◌, Bool, ◌||◌, ◌==◌, nat_lt, List, [], length, Option, Some, unwrap_or}
use Rattle.std.specs.Option.{option_map}
use Rattle.ots_memory.specs.Calls.{CallsTold, is_next_listed}
use Rattle.ots_outside.specs.Dialer.{Connection, DialerTold, Sent, bytes_sent, reply_of}
use Rattle.ots_base.specs.Table.{line}
use Rattle.ots_outside.specs.declared.dialer.DialError.{DialError}
use Rattle.ots_outside.specs.declared.dialer.DialError.TheVariants as dialing
use Rattle.ots_memory.specs.declared.dialer_room.DialerRoom.{DialerRoom}

pub record ScriptDialerTold : Type 0 where
  -- the replies to come, a conversation each
  pub replies : List (List ℕ)
  -- what was sent, a conversation each
  pub sent : List Sent
  -- what each slot is connected to, by its number
  pub slots : ℕ → Connection
  -- the room that is left
  pub room : DialerRoom
  -- its calls of `connect`, `read` and `write` together
  pub calls : CallsTold
  -- how many of them failed
  pub faults : ℕ

-- What it tells as a dialer.
abbrev pub dialer_told : ScriptDialerTold → DialerTold
dialer_told dialer = record { replies = Some dialer.replies; sent = Some dialer.sent; slots = dialer.slots }

-- ---- refusals

-- Why a `connect` to this host is refused, where it is.
abbrev pub connect_refusal : ScriptDialerTold → List ℕ → Option DialError
connect_refusal dialer host =
    line (is_next_listed dialer.calls || dialer.room.conversations == 0 || nat_lt dialer.room.host_length (length host))
    dialing.Failed

-- Whether a write of this piece to the entry at this place fails.
abbrev pub is_send_refused : ScriptDialerTold → ℕ → List ℕ → Bool
is_send_refused dialer place piece =
    is_next_listed dialer.calls || nat_lt dialer.room.bytes (length (bytes_sent dialer.sent place) + length piece)

-- ---- what is left

-- The bytes of the slot's reply that are left to read.
abbrev pub reply_bytes : Connection → List ℕ
reply_bytes connection = unwrap_or (option_map (λ reply. reply.left) (reply_of connection)) []

-- ---- after a call

-- The room after a conversation was begun.
abbrev pub with_conversation_less : DialerRoom → DialerRoom
with_conversation_less room = record room { conversations = room.conversations - 1 }
