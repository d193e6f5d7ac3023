-- What a dialer tells of its conversations, and what each of its calls does to that.
use Rattle.std.specs.Prelude.{◌≡◌, ◌≢◌, ◌<◌, ℕ, zero, suc, Bool, true, false, List, [], ◌∷◌, ◌++◌, length, map, take}
use Rattle.std.specs.Prelude.{drop, Option, None, Result, Ok, Err, IsTrue, MatchResult, slice_index_or, refl}
use Rattle.std.specs.Option.{option_map, option_and_then, ForSome}
use Rattle.std.proofs.Common.{◌∙◌, ap, sym, subst}
use Rattle.ots_base.specs.Told.{IfTold, BothTold}
use Rattle.ots_outside.specs.Link.{LinkTold}
use Rattle.ots_outside.specs.declared.shelf.Slot.{Slot}
use Rattle.ots_outside.specs.declared.dialer.DialError.{DialError}
use Rattle.ots_outside.specs.declared.dialer.DialError.TheVariants as dialing

-- What was sent in one conversation, and to whom.
pub record Sent : Type 0 where
  pub host : List ℕ
  pub port : ℕ
  pub bytes : List ℕ

-- What is told of a reply.
pub record ReplyTold : Type 0 where
  -- the bytes that are left to read
  pub left : List ℕ
  -- the bytes that reads have given
  pub given : List ℕ

-- What a slot is connected to: nothing; a conversation, with its reply, where that is told, and the place of its entry
-- in what was sent.
pub data Connection : Type 0 where
  unconnected : Connection
  connected : Option ReplyTold → ℕ → Connection

-- The slot was connected and not closed.
abbrev pub is_connected : Connection → Bool
is_connected unconnected = false
is_connected (connected reply entry) = true

-- The slot's reply, where it is told.
abbrev pub reply_of : Connection → Option ReplyTold
reply_of unconnected = None
reply_of (connected reply entry) = reply

-- The place of the slot's entry in what was sent.
abbrev pub place_sent : Connection → ℕ
place_sent unconnected = 0
place_sent (connected reply entry) = entry

pub record DialerTold : Type 0 where
  -- the replies to come, a conversation each
  pub replies : Option (List (List ℕ))
  -- what was sent, a conversation each, in the order in which they began
  pub sent : Option (List Sent)
  -- what each slot is connected to, by its number
  pub slots : ℕ → Connection

-- ---- what stays

-- All that is told stays, but for this slot.
pub record SameButConnection (slot : ℕ) (old new : DialerTold) : Type 0 where
  pub replies : new.replies ≡ old.replies
  pub sent : new.sent ≡ old.sent
  pub others : (k : ℕ) → k ≢ slot → new.slots k ≡ old.slots k

-- All that is told stays, but for what was sent.
pub record SameButSent (old new : DialerTold) : Type 0 where
  pub replies : new.replies ≡ old.replies
  pub slots : (k : ℕ) → new.slots k ≡ old.slots k

-- What was sent stays, and what each slot is connected to.
pub record KeepsConversations (old new : DialerTold) : Type 0 where
  pub sent : new.sent ≡ old.sent
  pub slots : (k : ℕ) → new.slots k ≡ old.slots k

-- ---- reading

-- These bytes of a reply were read.
pub record ReplyGives (bytes : List ℕ) (old new : ReplyTold) : Type 0 where
  pub left : old.left ≡ bytes ++ new.left
  pub given : new.given ≡ old.given ++ bytes

-- `read(buf)` gave the n bytes at the start of `buf` at `Ok(n)`, none only at the reply's end or with no room, and
-- nothing at `Err`.
abbrev pub ReplyReads : {E : Type 0} → Option ReplyTold → Option ReplyTold → Result ℕ E → List ℕ → Type 0
ReplyReads old new result buf =
    MatchResult result
    (λ n. BothTold (ReplyGives (take n buf)) old new × (n ≡ 0 → 0 < length buf → IfTold new (λ reply. reply.left ≡ [])))
    (λ _. new ≡ old)

-- ---- connecting

-- The next reply of the list, or the empty one at the list's end.
abbrev pub next_reply : List (List ℕ) → List ℕ
next_reply [] = []
next_reply (reply ∷ replies) = reply

-- A slot was connected to this host and port: it has the next reply left, and what was sent is longer by an entry of
-- its own.
pub record Connects (host : List ℕ) (port slot : ℕ) (old new : DialerTold) : Type 0 where
  pub was_unconnected : old.slots slot ≡ unconnected
  pub is_open : IsTrue (is_connected (new.slots slot))
  pub reply : reply_of (new.slots slot) ≡ option_map (λ replies. record { left = next_reply replies; given = [] })
      old.replies
  pub entry : IfTold old.sent (λ sent. place_sent (new.slots slot) ≡ length sent)
  pub sent : new.sent ≡ option_map (λ sent. sent ++ record { host = host; port = port; bytes = [] } ∷ []) old.sent
  pub others : (k : ℕ) → k ≢ slot → new.slots k ≡ old.slots k

-- The replies to come after a `connect` with this answer. Each conversation has a reply of its own, also one that
-- failed; want of memory takes none.
abbrev pub replies_after : Option (List (List ℕ)) → Result Slot DialError → Option (List (List ℕ))
replies_after told (Ok slot) = option_map (drop 1) told
replies_after told (Err dialing.Failed) = option_map (drop 1) told
replies_after told (Err dialing.OutOfMemory) = told

-- ---- sending

-- The bytes of the entry at this place grew by these.
abbrev pub with_sent : ℕ → List ℕ → List Sent → List Sent
with_sent place more [] = []
with_sent zero more (entry ∷ sent) = record entry { bytes = entry.bytes ++ more } ∷ sent
with_sent (suc place) more (entry ∷ sent) = entry ∷ with_sent place more sent

-- More was sent in the conversation of the entry at this place, where what was sent is told.
abbrev pub SendsMore : ℕ → List ℕ → Option (List Sent) → Option (List Sent) → Type 0
SendsMore place more old new = new ≡ option_map (with_sent place more) old

-- `write` of a piece appended to the entry the n bytes that it took at `Ok(n)`, and nothing at `Err`.
abbrev pub SendsTo : {E : Type 0} → ℕ → DialerTold → DialerTold → Result ℕ E → List ℕ → Type 0
SendsTo place old new result piece =
    MatchResult result (λ n. SendsMore place (take n piece) old.sent new.sent) (λ _. new.sent ≡ old.sent)

-- ---- one conversation as a link

-- What was sent in the conversation whose entry stands at this place.
abbrev pub bytes_sent : List Sent → ℕ → List ℕ
bytes_sent sent place = slice_index_or (map (λ entry. entry.bytes) sent) place []

-- What a connected slot tells as a link: told where both its reply and what was sent are.
abbrev pub conversation_told : DialerTold → ℕ → Option LinkTold
conversation_told told slot =
    let connection = told.slots slot in
    option_and_then (λ reply. option_map (λ sent. record {
      left = reply.left;
      given = reply.given;
      taken = bytes_sent sent (place_sent connection);
    }) told.sent) (reply_of connection)

-- The slot was connected and not closed, and its entry stands in what was sent.
pub record IsConversation (told : DialerTold) (slot : ℕ) : Type 0 where
  pub is_open : IsTrue (is_connected (told.slots slot))
  pub entry : ForSome told.sent (λ sent. place_sent (told.slots slot) < length sent)

-- What was sent, but for the bytes of the entry at this place.
abbrev pub but_bytes : ℕ → List Sent → List Sent
but_bytes place [] = []
but_bytes zero (entry ∷ sent) = record entry { bytes = [] } ∷ sent
but_bytes (suc place) (entry ∷ sent) = entry ∷ but_bytes place sent

-- All that is told stays, but for the reply of this slot and the bytes sent in its conversation.
pub record SameButConversation (slot : ℕ) (old new : DialerTold) : Type 0 where
  pub replies : new.replies ≡ old.replies
  pub sent : option_map (but_bytes (place_sent (old.slots slot))) new.sent
      ≡ option_map (but_bytes (place_sent (old.slots slot))) old.sent
  pub entry : place_sent (new.slots slot) ≡ place_sent (old.slots slot)
  pub others : (k : ℕ) → k ≢ slot → new.slots k ≡ old.slots k

pub SameButConversation-refl : (slot : ℕ) (t : DialerTold) → SameButConversation slot t t
SameButConversation-refl slot t = record { replies = refl; sent = refl; entry = refl; others = λ k other. refl }

pub SameButConversation-trans : (first second : ℕ) (t u v : DialerTold) → second ≡ first
    → SameButConversation first t u → SameButConversation second u v → SameButConversation first t v
SameButConversation-trans first second t u v one p q =
    let entry : place_sent (u.slots second) ≡ place_sent (t.slots first) = ap (λ k. place_sent (u.slots k)) one
    ∙ p.entry in
    record {
      replies = q.replies ∙ p.replies;
      sent = subst (λ place. option_map (but_bytes place) v.sent ≡ option_map (but_bytes place) u.sent) entry q.sent
          ∙ p.sent;
      entry = ap (λ k. place_sent (v.slots k)) (sym one) ∙ q.entry ∙ entry;
      others = λ k other. q.others k (λ e. other (e ∙ one)) ∙ p.others k other;
    }
