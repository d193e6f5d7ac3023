-- Lemmas on the conversations of a dialer in memory.
use Rattle.std.proofs.Common.{◌≡◌, ◌≢◌, ◌<◌, ℕ, zero, suc, List, [], ◌∷◌, ◌++◌, length, get_or, set, map, min, take, Option, None, Some, refl, sym, ap, ◌∙◌, arith, IsTrue}
use Rattle.std.proofs.Math.Seq.{map-set_same}
use Rattle.std.proofs.lemmas.Bool.{false≢true}
use Rattle.std.proofs.lemmas.Grind.{common_steps}
use Rattle.std.proofs.lemmas.List.{nil_from_length}
use Rattle.std.specs.Prelude.{string_bytes}
use Rattle.ots_base.specs.Told.{BothTold, IfTold}
use Rattle.ots_memory.specs.Conversations.{connection, connections, reply_in, sent_in}
use Rattle.ots_outside.specs.Dialer.{DialerTold, ReplyTold, ReplyGives, SameButConnection, Sent, bytes_sent, connected, place_sent, is_connected, reply_of, with_sent}
use Rattle.ots_memory.specs.declared.conversations.Conversation.{Conversation}

-- The reply of the conversation at this place.
abbrev pub reply_at : List Conversation → ℕ → Option ReplyTold
reply_at cs k = get_or (map reply_in cs) k None

-- ---- a conversation by its place

pub reply-get : (cs : List Conversation) (i : ℕ) (c : Conversation) → i < length cs → c ≡ get_or cs i c → reply_at cs i ≡ reply_in c
reply-get [] i c below is = absurd (omega arith)
reply-get (x ∷ cs) zero c below is = ap reply_in (sym is)
reply-get (x ∷ cs) (suc i) c below is = reply-get cs i c (omega arith) is

pub connected_below : (cs : List Conversation) (i j : ℕ) → IsTrue (is_connected (connection j (reply_at cs i))) → i < length cs
connected_below [] i j is_open = absurd (false≢true is_open)
connected_below (x ∷ cs) zero j is_open = omega arith
connected_below (x ∷ cs) (suc i) j is_open = let below : i < length cs = connected_below cs i j is_open in omega arith

-- ---- a conversation that is put in the place of one

pub reply-set_same : (cs : List Conversation) (i : ℕ) (c : Conversation) → i < length cs → reply_at (set cs i c) i ≡ reply_in c
reply-set_same [] i c below = absurd (omega arith)
reply-set_same (x ∷ cs) zero c below = refl
reply-set_same (x ∷ cs) (suc i) c below = reply-set_same cs i c (omega arith)

pub reply-set_other : (cs : List Conversation) (i : ℕ) (c : Conversation) (k : ℕ) → k ≢ i → reply_at (set cs i c) k ≡ reply_at cs k
reply-set_other [] i c k other = refl
reply-set_other (x ∷ cs) zero c zero other = absurd (other refl)
reply-set_other (x ∷ cs) zero c (suc k) other = refl
reply-set_other (x ∷ cs) (suc i) c zero other = refl
reply-set_other (x ∷ cs) (suc i) c (suc k) other = reply-set_other cs i c k (λ e. other (ap suc e))

pub reply-set_alike : (cs : List Conversation) (i : ℕ) (old c : Conversation) (k : ℕ) → old ≡ get_or cs i old → reply_in c ≡ reply_in old
    → reply_at (set cs i c) k ≡ reply_at cs k
reply-set_alike cs i old c k is alike = ap (λ replies. get_or replies k None) (map-set_same reply_in cs i c old (alike ∙ ap reply_in is))

pub sent-set_alike : (cs : List Conversation) (i : ℕ) (old c : Conversation) → old ≡ get_or cs i old → sent_in c ≡ sent_in old
    → map sent_in (set cs i c) ≡ map sent_in cs
sent-set_alike cs i old c is alike = map-set_same sent_in cs i c old (alike ∙ ap sent_in is)

abbrev more_sent : Conversation → List ℕ → Sent
more_sent c more = record { host = string_bytes c.host; port = c.port; bytes = c.sent.items ++ more }

-- More was sent in the conversation at this place.
pub sent-set_more : (cs : List Conversation) (i : ℕ) (old c : Conversation) (more : List ℕ) → i < length cs → old ≡ get_or cs i old
    → sent_in c ≡ record { host = string_bytes old.host; port = old.port; bytes = old.sent.items ++ more } → map sent_in (set cs i c) ≡ with_sent i more (map sent_in cs)
sent-set_more [] i old c more below is grew = absurd (omega arith)
sent-set_more (x ∷ cs) zero old c more below is grew =
    let first = ap (λ (d : Conversation). more_sent d more) is in
    ap (λ (s : Sent). s ∷ map sent_in cs) (grew ∙ first)
sent-set_more (x ∷ cs) (suc i) old c more below is grew = ap (λ (sent : List Sent). sent_in x ∷ sent) (sent-set_more cs i old c more (omega arith) is grew)

pub bytes_sent-get : (cs : List Conversation) (i : ℕ) (c : Conversation) → i < length cs → c ≡ get_or cs i c → bytes_sent (map sent_in cs) i ≡ c.sent.items
bytes_sent-get [] i c below is = absurd (omega arith)
bytes_sent-get (x ∷ cs) zero c below is = ap (λ (c : Conversation). c.sent.items) (sym is)
bytes_sent-get (x ∷ cs) (suc i) c below is = bytes_sent-get cs i c (omega arith) is

-- ---- what the calls leave

-- What these replies and conversations tell as a dialer.
abbrev pub dialed : List (List ℕ) → List Conversation → DialerTold
dialed replies cs = record { replies = Some replies; sent = Some (map sent_in cs); slots = connections cs }

pub is_at : (cs : List Conversation) (i : ℕ) (c : Conversation) (reply : ReplyTold) → i < length cs → c ≡ get_or cs i c → c.reply ≡ Some reply
    → connections cs i ≡ connected (Some reply) i
is_at cs i c reply below is has = ap (connection i) (reply-get cs i c below is ∙ has)

pub is_now_at : (cs : List Conversation) (i : ℕ) (c : Conversation) (reply : ReplyTold) → i < length cs → c.reply ≡ Some reply
    → connections (set cs i c) i ≡ connected (Some reply) i
is_now_at cs i c reply below has = ap (connection i) (reply-set_same cs i c below ∙ has)

pub entry_is : (cs : List Conversation) (i : ℕ) → IsTrue (is_connected (connections cs i)) → place_sent (connections cs i) ≡ i
entry_is cs i = cases (reply_at cs i) where
  cases : (o : Option ReplyTold) → IsTrue (is_connected (connection i o)) → place_sent (connection i o) ≡ i
  cases None is_open = absurd (false≢true is_open)
  cases (Some reply) is_open = refl

-- The conversation at this place was changed, but not what was sent in it.
pub same_but : (replies : List (List ℕ)) (cs : List Conversation) (i : ℕ) (old c : Conversation) → old ≡ get_or cs i old → sent_in c ≡ sent_in old
    → SameButConnection i (dialed replies cs) (dialed replies (set cs i c))
same_but replies cs i old c is alike = record {
  replies = refl;
  sent = ap Some (sent-set_alike cs i old c is alike);
  others = λ k other. ap (connection k) (reply-set_other cs i c k other);
}

-- The conversation at this place is still open, under its own entry.
pub stays_open : (cs : List Conversation) (i : ℕ) (c : Conversation) (reply : ReplyTold) → i < length cs → c.reply ≡ Some reply
    → IsTrue (is_connected (connections (set cs i c) i))
stays_open cs i c reply below has = rw (is_now_at cs i c reply below has) refl

pub entry_stays : (cs : List Conversation) (i : ℕ) (c : Conversation) (reply : ReplyTold) → IsTrue (is_connected (connections cs i)) → c.reply ≡ Some reply
    → place_sent (connections (set cs i c) i) ≡ place_sent (connections cs i)
entry_stays cs i c reply is_open has = entry_is (set cs i c) i (stays_open cs i c reply (connected_below cs i i is_open) has) ∙ sym (entry_is cs i is_open)

-- A piece was sent in the conversation at this place.
pub sends : (cs : List Conversation) (i : ℕ) (old c : Conversation) (piece : List ℕ) → IsTrue (is_connected (connections cs i)) → old ≡ get_or cs i old
    → string_bytes c.host ≡ string_bytes old.host → c.port ≡ old.port → c.sent.items ≡ old.sent.items ++ piece
    → map sent_in (set cs i c) ≡ with_sent (place_sent (connections cs i)) (take (length piece) piece) (map sent_in cs)
sends cs i old c piece is_open is host port grew =
    let all : take (length piece) piece ≡ piece = grind (arith, common_steps) in
    rw (entry_is cs i is_open, all) (sent-set_more cs i old c piece (connected_below cs i i is_open) is
    (λ j. record { host = host j; port = port j; bytes = grew j }))

-- What was sent in the conversation at this place.
pub held_is : (cs : List Conversation) (i : ℕ) (c : Conversation) → IsTrue (is_connected (connections cs i)) → c ≡ get_or cs i c
    → bytes_sent (map sent_in cs) (place_sent (connections cs i)) ≡ c.sent.items
held_is cs i c is_open is = rw (entry_is cs i is_open) (bytes_sent-get cs i c (connected_below cs i i is_open) is)

-- Bytes were read of the reply of the conversation at this place.
pub reads : (cs : List Conversation) (i n : ℕ) (old c : Conversation) (before after : ReplyTold) (buf : List ℕ) → i < length cs
    → old ≡ get_or cs i old → old.reply ≡ Some before → c.reply ≡ Some after → n ≡ min (length before.left) (length buf)
    → ReplyGives (take n buf) before after
    → BothTold (ReplyGives (take n buf)) (reply_of (connections cs i)) (reply_of (connections (set cs i c) i))
    × (n ≡ 0 → 0 < length buf → IfTold (reply_of (connections (set cs i c) i)) (λ reply. reply.left ≡ []))
reads cs i n old c before after buf below is had has count gives =
    rw (is_at cs i old before below is had, is_now_at cs i c after below has)
    (gives, λ none room. nil_from_length after.left (let parts = gives.left in grind (arith, common_steps)))
