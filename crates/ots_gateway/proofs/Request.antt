-- The request of one link.
use Rattle.std.proofs.Common.{◌≡◌, ◌≤◌, ℕ, List, [], ◌∷◌, refl, sym, ap, subst, ◌∙◌, arith, append-nil}
use Rattle.std.specs.Prelude.{Result, Ok, Err}
use Rattle.ots_base.specs.Cause.{Rose}
use Rattle.ots_http.specs.ReplyText.{refusal, status_of}
use Rattle.ots_http.specs.Seen.{LinkSeen, Takes}
use Rattle.ots_http.specs.declared.request.Request.{Request}
use Rattle.ots_http.specs.declared.request.Request.TheVariants.{Digest, Timestamp, Records, Refused}
use Rattle.ots_http.specs.declared.request.RequestError.{RequestError}
use Rattle.ots_http.specs.declared.request.RequestError.TheVariants as unread
use Rattle.ots_http.specs.declared.word.Word.{Word}
use Rattle.ots_http.specs.declared.word.Word.TheVariants.{NotFound, Nonce}
use Rattle.ots_outside.specs.Streams.{Gives, Gives-nothing}
use Rattle.ots_gateway.specs.Arrived.{HasWords, IsHeard, IsServed}
use Rattle.ots_gateway.specs.Round.{Draws, Heard, NoncesSeen, Reads, Sends, cut, digest, in_words, no_nonce, other, whole}
use Rattle.ots_gateway.specs.declared.arrived.Arrived.{Arrived}
use Rattle.ots_gateway.specs.declared.arrived.Arrived.TheVariants as arrived
use Rattle.ots_gateway.specs.declared.served.GateServed.{GateServed}
use Rattle.ots_gateway.specs.declared.served.GateServed.TheVariants.{Replied, Closed, LinkFault}
use Rattle.ots_gateway.specs.declared.waiting.Waiting.{Waiting}
use Rattle.ots_gateway.proofs.Replied.{sends_after}

-- words that were written whole
pub words_served : (word : Word) (o n : LinkSeen) (s : GateServed) (status : ℕ) → Sends (in_words word) o n s → (s ≡ LinkFault → ⊥) → status ≡ status_of word → s ≡ Replied status
words_served word o n s status (whole is t) none same = is ∙ ap Replied (sym same)
words_served word o n s status (cut k within is rose t) none same = absurd (none is)

-- ---- nonces that were not drawn

module _ (from to : NoncesSeen) (kept : to.left ≡ from.left) (later : from.faults ≤ to.faults) where
  left_nothing : Gives from.left to.left []
  left_nothing = subst (λ l. Gives from.left l []) (sym kept) (Gives-nothing from.left)

  draws_other : (r : Result Request RequestError) → Draws (other r ∷ []) from to
  draws_other r = record { drawn = left_nothing; later = later; cause = omega (arith, later) }

  draws_no_nonce : (leaf : List ℕ) → Rose from.faults to.faults → Draws (no_nonce leaf ∷ []) from to
  draws_no_nonce leaf rose = record { drawn = left_nothing; later = later; cause = omega (arith, rose) }

  -- a request that is answered in words
  pub words_heard : (old mid new : LinkSeen) (request : Request) (word : Word) (served : GateServed) (a : Arrived) → Reads old (Ok request) → Takes [] old mid
      → old.faults ≤ mid.faults → HasWords request (Rose from.faults to.faults) word → Sends (in_words word) mid new served → IsServed a served
      → (h : Heard) × IsHeard h old new a × Draws (h ∷ []) from to
  words_heard old mid new (Digest leaf) word served a reads takes more has sends is =
      (no_nonce leaf, (served, is, (reads, sends_after (in_words Nonce) old mid new served takes more (subst (λ (w : Word). Sends (in_words w) mid new served) has.0 sends))), draws_no_nonce leaf has.1)
  words_heard old mid new (Timestamp c) word served a reads takes more has sends is =
      (other (Ok (Timestamp c)), (served, is, (reads, sends_after (in_words NotFound) old mid new served takes more (subst (λ (w : Word). Sends (in_words w) mid new served) has sends))), draws_other _)
  words_heard old mid new (Records k) word served a reads takes more has sends is =
      (other (Ok (Records k)), (served, is, (reads, sends_after (in_words NotFound) old mid new served takes more (subst (λ (w : Word). Sends (in_words w) mid new served) has sends))), draws_other _)
  words_heard old mid new (Refused status) word served a reads takes more has sends is =
      (other (Ok (Refused status)), (served, is, (reads, sends_after (in_words (refusal status)) old mid new served takes more (subst (λ (w : Word). Sends (in_words w) mid new served) has sends))), draws_other _)

  -- no request
  pub closed_heard : (old new : LinkSeen) (e : RequestError) → e ≡ unread.Closed → Reads old (Err e) → Takes [] old new
      → (h : Heard) × IsHeard h old new arrived.Closed × Draws (h ∷ []) from to
  closed_heard old new e is reads takes =
      (other (Err unread.Closed), (Closed, refl, (subst (λ (x : RequestError). Reads old (Err x)) is reads, (refl, takes))), draws_other _)

  pub fault_heard : (old new : LinkSeen) (e : RequestError) → e ≡ unread.LinkFault → Reads old (Err e) → Rose old.faults new.faults → Takes [] old new
      → (h : Heard) × IsHeard h old new arrived.LinkFault × Draws (h ∷ []) from to
  fault_heard old new e is reads rose takes =
      (other (Err unread.LinkFault), (LinkFault, refl, (subst (λ (x : RequestError). Reads old (Err x)) is reads, (refl, rose, takes))), draws_other _)

-- a digest that waits
pub waits_heard : (from to : NoncesSeen) (old new : LinkSeen) (request : Request) (w : Waiting) → request ≡ Digest w.digest → Gives from.left to.left w.nonce → from.faults ≤ to.faults
    → Reads old (Ok request) → Takes [] old new → old.faults ≤ new.faults → (h : Heard) × IsHeard h old new (arrived.Waits w) × Draws (h ∷ []) from to
waits_heard from to old new request w is gives later reads takes more = (
  digest w,
  (refl, subst (λ (r : Request). Reads old (Ok r)) is reads, takes, more),
  record { drawn = subst (Gives from.left to.left) (sym (append-nil w.nonce)) gives; later = later; cause = omega (arith, later) },
)
