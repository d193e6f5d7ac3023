-- What a conversation comes to in a round.
use Rattle.std.proofs.Common.{◌≡◌, inl, inr, ℕ, List, [], refl, sym, ap, subst, ◌∙◌}
use Rattle.std.specs.Prelude.{Option, None, Some, Result, Ok, Err, MatchResult}
use Rattle.ots_address.specs.Address.{AddressParts}
use Rattle.ots_base.specs.Told.{IfTold}
use Rattle.ots_conversation.specs.Conversation.{Query, Sends, Talks, WhereTold, had, no_memory}
use Rattle.ots_http.specs.ReplyTable.{IsReplyAnswer}
use Rattle.ots_http.specs.declared.reply.HttpReply.{HttpReply}
use Rattle.ots_http.specs.declared.reply.HttpReply.TheVariants as http
use Rattle.ots_http.specs.declared.reply.ReplyError.{ReplyError}
use Rattle.ots_http.specs.declared.reply.ReplyError.TheVariants as reply
use Rattle.ots_journal.specs.declared.entry.Entry.{Entry}
use Rattle.ots_journal.specs.Journal.{JournalTold}
use Rattle.ots_mirror_words.specs.declared.outcome.RoundOutcome.{RoundOutcome}
use Rattle.ots_mirror_words.specs.declared.outcome.RoundOutcome.TheVariants.{Took, Current, BadPage, Unreachable, Status, TooLong, BadHttp}
use Rattle.ots_mirror_words.specs.declared.status.MirrorStatus.{MirrorStatus}
use Rattle.ots_outside.specs.Dialer.{DialerTold, Sent, next_reply}
use Rattle.ots_store.specs.Order.{AreRecords}
use Rattle.ots_store.specs.Records.{Record}
use Rattle.ots_mirror.specs.Asking.{AsksInVain, HasRound, query_for}
use Rattle.ots_mirror.specs.Group.{AddsGroup, StopsRound, Stops, disk_failed, full, no_memory as no_room}
use Rattle.ots_mirror.specs.Round.{IsCounted, IsRound, TakesBody, TakesGroup, TakesReply}

abbrev outcome_or : Result RoundOutcome MirrorStatus → RoundOutcome
outcome_or (Ok o) = o
outcome_or (Err e) = BadPage

module _ (records : List Record) where
  follow_none : (group : List Entry) → group ≡ [] → AreRecords records group
  follow_none group none = subst (AreRecords records) (sym none) (record { each = tt; order = tt })

  -- ---- a good body

  body_round : (bytes body : List ℕ) (o : RoundOutcome) (group : List Entry) → IsReplyAnswer bytes (Ok (http.Good body)) → TakesBody records body o group → IsRound records bytes o group
  body_round bytes body (Took n) group answer taken = (body, answer, taken)
  body_round bytes body Current group answer taken = (body, answer, taken)
  body_round bytes body BadPage group answer taken = (body, answer, taken)
  body_round bytes body Unreachable group answer taken = absurd taken
  body_round bytes body (Status code) group answer taken = absurd taken
  body_round bytes body TooLong group answer taken = absurd taken
  body_round bytes body BadHttp group answer taken = absurd taken

  body_follows : (body : List ℕ) (o : RoundOutcome) (group : List Entry) → TakesBody records body o group → AreRecords records group × IsCounted o group
  body_follows body (Took n) group (takes, count, some) = (takes.follow, (count, some))
  body_follows body Current group (takes, none) = (follow_none group none, none)
  body_follows body BadPage group (bad, none) = (follow_none group none, none)
  body_follows body Unreachable group taken = absurd taken
  body_follows body (Status code) group taken = absurd taken
  body_follows body TooLong group taken = absurd taken
  body_follows body BadHttp group taken = absurd taken

  -- ---- whatever was read

  reply_round : (bytes : List ℕ) (read : Result HttpReply ReplyError) (o : RoundOutcome) (group : List Entry) → IsReplyAnswer bytes read → TakesReply records read o group → IsRound records bytes o group
  reply_round bytes (Ok (http.Good body)) o group answer taken = body_round bytes body o group answer taken
  reply_round bytes (Ok (http.Status code)) o group answer (is, none) = subst (λ (z : RoundOutcome). IsRound records bytes z group) (sym is) (answer, none)
  reply_round bytes (Err reply.TooLong) o group answer (is, none) = subst (λ (z : RoundOutcome). IsRound records bytes z group) (ap outcome_or is) (answer, none)
  reply_round bytes (Err reply.BadHttp) o group answer (is, none) = subst (λ (z : RoundOutcome). IsRound records bytes z group) (ap outcome_or is) (answer, none)
  reply_round bytes (Err reply.LinkFault) o group answer (is, none) = subst (λ (z : RoundOutcome). IsRound records bytes z group) (ap outcome_or is) none
  reply_round bytes (Err reply.OutOfMemory) o group answer (is, none) = absurd (let clash = is in cc)

  reply_follows : (read : Result HttpReply ReplyError) (o : RoundOutcome) (group : List Entry) → TakesReply records read o group → AreRecords records group × IsCounted o group
  reply_follows (Ok (http.Good body)) o group taken = body_follows body o group taken
  reply_follows (Ok (http.Status code)) o group (is, none) = (follow_none group none, subst (λ (z : RoundOutcome). IsCounted z group) (sym is) none)
  reply_follows (Err reply.TooLong) o group (is, none) = (follow_none group none, subst (λ (z : RoundOutcome). IsCounted z group) (ap outcome_or is) none)
  reply_follows (Err reply.BadHttp) o group (is, none) = (follow_none group none, subst (λ (z : RoundOutcome). IsCounted z group) (ap outcome_or is) none)
  reply_follows (Err reply.LinkFault) o group (is, none) = (follow_none group none, subst (λ (z : RoundOutcome). IsCounted z group) (ap outcome_or is) none)
  reply_follows (Err reply.OutOfMemory) o group (is, none) = absurd (let clash = is in cc)

  unreached : (read : Result HttpReply ReplyError) (o : RoundOutcome) (group : List Entry) → TakesReply records read o group → o ≡ Unreachable → read ≡ Err reply.LinkFault
  unreached (Ok (http.Good body)) o group taken is = absurd (subst (λ (z : RoundOutcome). TakesBody records body z group) is taken)
  unreached (Ok (http.Status code)) o group (one, none) is = absurd (let clash : Status code ≡ Unreachable = sym one ∙ is in cc)
  unreached (Err reply.TooLong) o group (one, none) is = absurd (let clash : TooLong ≡ Unreachable = ap outcome_or one ∙ is in cc)
  unreached (Err reply.BadHttp) o group (one, none) is = absurd (let clash : BadHttp ≡ Unreachable = ap outcome_or one ∙ is in cc)
  unreached (Err reply.LinkFault) o group taken is = refl
  unreached (Err reply.OutOfMemory) o group (one, none) is = absurd (let clash = one in cc)

  reached : (read : Result HttpReply ReplyError) (o : RoundOutcome) (group : List Entry) → TakesReply records read o group → read ≡ Err reply.LinkFault → o ≡ Unreachable
  reached read o group taken is =
      let at : TakesReply records (Err reply.LinkFault) o group = subst (λ (z : Result HttpReply ReplyError). TakesReply records z o group) is taken in
      sym (ap outcome_or at.0)

-- the same of a told reply
told_as : (told : DialerTold) (P Q : List ℕ → Type 0) → ((bytes : List ℕ) → P bytes → Q bytes) → WhereTold told (λ sent replies. P (next_reply replies)) → WhereTold told (λ sent replies. Q (next_reply replies))
told_as told P Q f h = both told.sent told.replies h
  where
    both : (sent : Option (List Sent)) (replies : Option (List (List ℕ))) → IfTold sent (λ s. IfTold replies (λ r. P (next_reply r))) → IfTold sent (λ s. IfTold replies (λ r. Q (next_reply r)))
    both None replies h = tt
    both (Some s) None h = tt
    both (Some s) (Some r) h = f (next_reply r) h

module _ {T : Type 0} (told : T → DialerTold) (faults : T → ℕ) (address : AddressParts) (records : List Record) (old new : T) (read : Result HttpReply ReplyError) where
  sends_as : (p q : Type 0) → (p → q) → (q → p) → (query : Query) → Sends told faults query p old new → Sends told faults query q old new
  sends_as p q f g query s = record { prefix = s.prefix; whole = λ not. s.whole (λ failed. not (f failed)); replies = s.replies; slots = s.slots; later = s.later }

  pub talked : Talks told faults (query_for address records) old new read → (o : RoundOutcome) (group : List Entry) → TakesReply records read o group → HasRound told faults address records old new o group
  talked (had sends answer cause) o group taken = record {
    sends = sends_as (read ≡ Err reply.LinkFault) (o ≡ Unreachable) (reached records read o group taken) (unreached records read o group taken) (query_for address records) sends;
    outcome_is = told_as (told old) (λ bytes. IsReplyAnswer bytes read) (λ bytes. IsRound records bytes o group) (λ bytes answers. reply_round records bytes read o group answers taken) answer;
    cause = λ is. cause (unreached records read o group taken is);
    follow = (reply_follows records read o group taken).0;
    counted = (reply_follows records read o group taken).1;
  }
  talked (no_memory is keeps) o group taken =
      absurd (let at : TakesReply records (Err reply.OutOfMemory) o group = subst (λ (z : Result HttpReply ReplyError). TakesReply records z o group) is taken in let clash = at.0 in cc)

  in_vain : Talks told faults (query_for address records) old new read → AsksInVain told faults address records old new
  in_vain (had sends answer cause) = inr (record { prefix = sends.prefix; whole = λ not. sends.whole (λ failed. not (cause failed)); replies = sends.replies; slots = sends.slots; later = sends.later })
  in_vain (no_memory is keeps) = inl keeps

  pub stopped : {D : Type 0} (clock : D → ℕ) (images_since : D → ℕ → List ℕ → Type 0) (disk : Type 0) (jold jnew : JournalTold D) (s : MirrorStatus) → Talks told faults (query_for address records) old new read
      → Stops clock images_since disk (TakesGroup (TakesReply records read)) jold jnew s
      → StopsRound clock images_since disk (TakesGroup (HasRound told faults address records old new)) (AsksInVain told faults address records old new) jold jnew s
  stopped clock images_since disk jold jnew s talks (full group taken over is same) = full group (talked talks _ group taken) over is same
  stopped clock images_since disk jold jnew s talks (disk_failed group taken rose is moments) = disk_failed group (talked talks _ group taken) rose is moments
  stopped clock images_since disk jold jnew s talks (no_room asks is same) = no_room (in_vain talks) is same

  pub round_made : {D : Type 0} (clock : D → ℕ) (images : D → List ℕ → Type 0) (images_since : D → ℕ → List ℕ → Type 0) (disk : Type 0) (jold jnew : JournalTold D) (r : Result RoundOutcome MirrorStatus)
      → Talks told faults (query_for address records) old new read
      → MatchResult r (λ o. AddsGroup clock images images_since (TakesReply records read o) jold jnew) (Stops clock images_since disk (TakesGroup (TakesReply records read)) jold jnew)
      → MatchResult r (λ o. AddsGroup clock images images_since (HasRound told faults address records old new o) jold jnew)
      (StopsRound clock images_since disk (TakesGroup (HasRound told faults address records old new)) (AsksInVain told faults address records old new) jold jnew)
  round_made clock images images_since disk jold jnew (Ok o) talks (group, taken, adds) = (group, talked talks o group taken, adds)
  round_made clock images images_since disk jold jnew (Err s) talks stops = stopped clock images_since disk jold jnew s talks stops
