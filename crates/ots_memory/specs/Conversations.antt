-- How a dialer in memory holds its conversations.
use Rattle.std.specs.Prelude.{◌≡◌, ◌<◌, ◌≤◌, ◌+◌, ◌^◌, ℕ, List, [], ◌∷◌, ◌++◌, All, length, map, Option, Some, None}
use Rattle.std.specs.Prelude.{Vec, vec_capacity, string_bytes, slice_index_or}
use Rattle.std.specs.declared.alloc.Global.{Global}
use Rattle.ots_memory.specs.Calls.{CallsTold}
use Rattle.ots_outside.specs.Dialer.{Connection, ReplyTold, Sent, unconnected, connected}
use Rattle.ots_memory.specs.Entries.{IsSpare}
use Rattle.ots_memory.specs.ScriptDialerTold.{ScriptDialerTold}
use Rattle.ots_memory.specs.declared.conversations.Conversation.{Conversation}
use Rattle.ots_memory.specs.declared.dialer_room.DialerRoom.{DialerRoom}
use Rattle.ots_memory.specs.declared.entries.Entry.{Entry}

-- ---- what is told

-- What was sent in a conversation, and to whom.
abbrev pub sent_in : Conversation → Sent
sent_in conversation = record {
  host = string_bytes conversation.host;
  port = conversation.port;
  bytes = conversation.sent.items;
}

-- The reply of a conversation, until it is closed.
abbrev pub reply_in : Conversation → Option ReplyTold
reply_in conversation = conversation.reply

-- What the slot is connected to that has this reply, if any: the conversation of its own number.
abbrev pub connection : ℕ → Option ReplyTold → Connection
connection slot None = unconnected
connection slot (Some reply) = connected (Some reply) slot

-- What each slot is connected to.
abbrev pub connections : List Conversation → ℕ → Connection
connections conversations slot = connection slot (slice_index_or (map reply_in conversations) slot None)

-- What is told of these conversations.
abbrev pub conversations_told : List (List ℕ) → List Conversation → DialerRoom → CallsTold → ℕ → ScriptDialerTold
conversations_told replies conversations room calls faults = record {
  replies = replies;
  sent = map sent_in conversations;
  slots = connections conversations;
  room = room;
  calls = calls;
  faults = faults;
}

-- ---- what always holds

-- What was sent keeps within its memory.
pub record KeepsWithin (bytes : ℕ) (conversation : Conversation) : Type 0 where
  pub fits : length conversation.sent.items ≤ bytes
  pub bytes_room : bytes ≤ vec_capacity conversation.sent

-- There is memory for the room that is left.
pub record HasDialerMemory (conversations : Vec Conversation Global) (spare : Vec Entry Global)
    (room : DialerRoom) : Type 0 where
  pub all_within : All (KeepsWithin room.bytes) conversations.items
  pub all_spare : All (IsSpare room.host_length room.bytes) spare.items
  pub spare_left : length spare.items ≡ room.conversations
  pub conversations_room : length conversations.items + room.conversations ≤ vec_capacity conversations
  pub numbers_fit : length conversations.items + room.conversations < 2 ^ 32

-- A conversation was added with this host, port and reply, in which nothing is sent yet.
pub record AddsConversation (old new : List Conversation) (host : List ℕ) (port : ℕ) (reply : ReplyTold)
    (most : ℕ) : Type 0 where
  pub conversation : Conversation
  pub added : new ≡ old ++ conversation ∷ []
  pub sent : sent_in conversation ≡ record { host = host; port = port; bytes = [] }
  pub has : reply_in conversation ≡ Some reply
  pub within : KeepsWithin most conversation
