-- One conversation, from its beginning to its end.
use Rattle.std.proofs.Common.{◌≡◌, ◌≢◌, ◌≤◌, ℕ, Bool, true, false, eqb, List, [], ◌∷◌, ◌++◌, length, take, drop, get_or, Option, None, Some, unwrap_or, Result, Err, refl, sym, ap, subst, ◌∙◌, inl, inr, arith}
use Rattle.std.proofs.Math.Seq.{take-length}
use Rattle.std.specs.Option.{option_map, option_and_then}
use Rattle.std.specs.Prelude.{◌⊎◌}
use Rattle.std.proofs.lemmas.Bool.Decides.{nat_tests}
use Rattle.ots_base.specs.Told.{IfTold, BothTold}
use Rattle.ots_http.specs.ReplyTable.{IsReplyAnswer}
use Rattle.ots_http.specs.declared.reply.HttpReply.{HttpReply}
use Rattle.ots_http.specs.declared.reply.ReplyError.{ReplyError}
use Rattle.ots_http.specs.declared.reply.ReplyError.TheVariants.{LinkFault}
use Rattle.ots_outside.specs.Dialer.{Connects, DialerTold, ReplyTold, SameButConnection, SameButConversation, Sent, but_bytes, bytes_sent, conversation_told, next_reply, place_sent, reply_of, unconnected}
use Rattle.ots_outside.specs.Link.{LinkTold}
use Rattle.ots_conversation.specs.Conversation.{Query, Sends, Talks, WhereTold, had, request_of, sent_to}
use Rattle.ots_conversation.specs.Exchanged.{Exchanges, TakesSome}

decide : (x : Bool) → (x ≡ true) ⊎ (x ≡ false)
decide true = inl refl
decide false = inr refl

-- ---- what was sent

-- All but the bytes of the last entry is as it was.
last_alone : (sent : List Sent) (e : Sent) (now : List Sent) → but_bytes (length sent) now ≡ but_bytes (length sent) (sent ++ e ∷ [])
    → now ≡ sent ++ record e { bytes = bytes_sent now (length sent) } ∷ []
last_alone [] e [] same = absurd (cc)
last_alone [] e (x ∷ now) same =
    let head : record x { bytes = [] } ≡ record e { bytes = [] } = ap (λ (l : List Sent). get_or l 0 e) same in
    let tail : now ≡ [] = ap (drop 1) same in
    λ i. record { host = (head i).host; port = (head i).port; bytes = x.bytes } ∷ tail i
last_alone (y ∷ sent) e [] same = absurd (cc)
last_alone (y ∷ sent) e (x ∷ now) same =
    let head : x ≡ y = ap (λ (l : List Sent). get_or l 0 e) same in
    let tail : but_bytes (length sent) now ≡ but_bytes (length sent) (sent ++ e ∷ []) = ap (drop 1) same in
    λ i. head i ∷ last_alone sent e now tail i

nothing_yet : (sent : List Sent) (e : Sent) → bytes_sent (sent ++ e ∷ []) (length sent) ≡ e.bytes
nothing_yet [] e = refl
nothing_yet (y ∷ sent) e = nothing_yet sent e

-- What is told of a list of entries that is the same but for the bytes of the last.
told_alone : (o : Option (List Sent)) (sent : List Sent) (e : Sent) → option_map (but_bytes (length sent)) o ≡ Some (but_bytes (length sent) (sent ++ e ∷ []))
    → (now : List Sent) × (o ≡ Some now) × (now ≡ sent ++ record e { bytes = bytes_sent now (length sent) } ∷ [])
told_alone None sent e same = absurd (cc)
told_alone (Some now) sent e same = (now, refl, last_alone sent e now (ap (λ (o : Option (List Sent)). unwrap_or o []) same))

-- What the link has taken is what its entry holds.
holds : (n place at : ℕ) (bytes : List ℕ) (link : LinkTold) (now : List Sent) (reply : Option ReplyTold) (sent : Option (List Sent)) → sent ≡ Some now → at ≡ place
    → BothTold (TakesSome n bytes) (Some link)
    (option_and_then (λ reply. option_map (λ sent. record { left = reply.left; given = reply.given; taken = bytes_sent sent at }) sent) reply)
    → bytes_sent now place ≡ link.taken ++ take n bytes
holds n place at bytes link now None sent is same took = absurd took
holds n place at bytes link now (Some reply) None is same took = absurd took
holds n place at bytes link now (Some reply) (Some sent) is same took =
    let one : sent ≡ now = ap (λ (o : Option (List Sent)). unwrap_or o []) is in
    sym (λ i. bytes_sent (one i) (same i)) ∙ took

where_both : (s : Option (List Sent)) (rs : Option (List (List ℕ))) (P : List Sent → List (List ℕ) → Type 0)
    → ((sent : List Sent) (replies : List (List ℕ)) → s ≡ Some sent → rs ≡ Some replies → P sent replies) → IfTold s (λ sent. IfTold rs (P sent))
where_both None rs P f = tt
where_both (Some sent) None P f = tt
where_both (Some sent) (Some replies) P f = f sent replies refl refl

module _ (q : Query) {slot : ℕ} {old at mid : DialerTold} {before now : ℕ} {r : Result HttpReply ReplyError}
    (connects : Connects q.address.host q.address.port slot old at) (same : SameButConversation slot at mid)
    (exchanged : Exchanges (request_of q) (conversation_told at slot) (conversation_told mid slot) before now r) where
  place_is : (sent : List Sent) → old.sent ≡ Some sent → place_sent (at.slots slot) ≡ length sent
  place_is sent told = subst (λ (o : Option (List Sent)). IfTold o (λ sent. place_sent (at.slots slot) ≡ length sent)) told connects.entry

  sent_at : (sent : List Sent) → old.sent ≡ Some sent → at.sent ≡ Some (sent ++ sent_to q [] ∷ [])
  sent_at sent told = connects.sent ∙ ap (option_map (λ sent. sent ++ sent_to q [] ∷ [])) told

  link_at : (sent : List Sent) (replies : List (List ℕ)) → old.sent ≡ Some sent → old.replies ≡ Some replies
      → conversation_told at slot ≡ Some (record { left = next_reply replies; given = []; taken = [] })
  link_at sent replies told comes =
      let reply : reply_of (at.slots slot) ≡ Some (record { left = next_reply replies; given = [] }) =
      connects.reply ∙ ap (option_map (λ replies. record { left = next_reply replies; given = [] })) comes in
      rw (reply, sent_at sent told, place_is sent told)
      (ap (λ (z : List ℕ). Some (record { left = next_reply replies; given = []; taken = z })) (nothing_yet sent (sent_to q [])))

  sent_mid : (sent : List Sent) (replies : List (List ℕ)) → old.sent ≡ Some sent → old.replies ≡ Some replies
      → mid.sent ≡ Some (sent ++ sent_to q (take exchanged.count (request_of q)) ∷ [])
  sent_mid sent replies told comes =
      let place = place_is sent told in
      let alone = told_alone mid.sent sent (sent_to q [])
      (rw (sym place) same.sent ∙ ap (option_map (but_bytes (length sent))) (sent_at sent told)) in
      let bytes : bytes_sent alone.0 (length sent) ≡ take exchanged.count (request_of q) =
      holds exchanged.count (length sent) (place_sent (mid.slots slot)) (request_of q) (record { left = next_reply replies; given = []; taken = [] }) alone.0
      (reply_of (mid.slots slot)) mid.sent alone.1 (same.entry ∙ place)
      (subst (λ (l : Option LinkTold). BothTold (TakesSome exchanged.count (request_of q)) l (conversation_told mid slot)) (link_at sent replies told comes) exchanged.taken) in
      alone.1 ∙ ap Some (alone.2 ∙ ap (λ (z : List ℕ). sent ++ sent_to q z ∷ []) bytes)

  pub answered : WhereTold old (λ sent replies. IsReplyAnswer (next_reply replies) r)
  answered = where_both old.sent old.replies _ (λ sent replies told comes.
      subst (λ (l : Option LinkTold). IfTold l (λ link. IsReplyAnswer link.left r)) (link_at sent replies told comes) exchanged.answer)

-- ---- the whole of it

-- What a conversation did to a dialer, from its beginning over the slot's link to its end.
pub record Had {D : Type 0} (told : D → DialerTold) (faults : D → ℕ) (q : Query) (slot : ℕ) (old at mid new : D) (r : Result HttpReply ReplyError) : Type 0 where
  pub connects : Connects q.address.host q.address.port slot (told old) (told at)
  pub replies : (told at).replies ≡ option_map (drop 1) (told old).replies
  pub begun : faults old ≤ faults at
  pub same : SameButConversation slot (told at) (told mid)
  pub exchanged : Exchanges (request_of q) (conversation_told (told at) slot) (conversation_told (told mid) slot) (faults at) (faults mid) r
  pub closed : (told new).slots slot ≡ unconnected
  pub others : SameButConnection slot (told mid) (told new)
  pub ended : faults new ≡ faults mid

same_slots : (slot : ℕ) (old at mid new : DialerTold) → old.slots slot ≡ unconnected → new.slots slot ≡ unconnected
    → ((k : ℕ) → k ≢ slot → at.slots k ≡ old.slots k) → ((k : ℕ) → k ≢ slot → mid.slots k ≡ at.slots k)
    → ((k : ℕ) → k ≢ slot → new.slots k ≡ mid.slots k) → (k : ℕ) → new.slots k ≡ old.slots k
same_slots slot old at mid new was closed first second third k =
    elim (decide (eqb k slot)) [
      | inl same ↦ let is : k ≡ slot = grind (arith, nat_tests) in rw is (closed ∙ sym was)
      | inr differ ↦ let other : k ≢ slot = λ is. grind (arith, nat_tests) in third k other ∙ second k other ∙ first k other
    ]

module _ {D : Type 0} (told : D → DialerTold) (faults : D → ℕ) (q : Query) {slot : ℕ} {old at mid new : D} {r : Result HttpReply ReplyError}
    (was : Had told faults q slot old at mid new r) where
  pub sends : Sends told faults q (r ≡ Err LinkFault) old new
  sends = record {
    prefix = where_both (told old).sent (told old).replies _ (λ sent replies tells comes.
        inr (was.exchanged.count, was.exchanged.at_most, was.others.sent ∙ sent_mid q was.connects was.same was.exchanged sent replies tells comes));
    whole = λ good. where_both (told old).sent (told old).replies _ (λ sent replies tells comes.
        was.others.sent ∙ sent_mid q was.connects was.same was.exchanged sent replies tells comes
        ∙ ap (λ (z : List ℕ). Some (sent ++ sent_to q z ∷ [])) (ap (λ (n : ℕ). take n (request_of q)) (was.exchanged.whole good) ∙ take-length (request_of q)));
    replies = was.others.replies ∙ was.same.replies ∙ was.replies;
    slots = same_slots slot (told old) (told at) (told mid) (told new) was.connects.was_unconnected was.closed was.connects.others was.same.others was.others.others;
    later = omega (arith, was.begun, was.exchanged.cause.later, was.ended);
  }

  pub talks : Talks told faults q old new r
  talks = had sends (answered q was.connects was.same was.exchanged) (λ failed. omega (arith, was.begun, was.exchanged.cause.rose failed, was.ended))
