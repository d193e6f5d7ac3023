-- What came of a conversation, by what was read in it.
use Rattle.std.proofs.Common.{ℕ, List, [], ◌∷◌, Option, None, Some, Result, Ok, Err, inl, inr}
use Rattle.std.specs.Prelude.{◌≢◌, IfOk, OnErr}
use Rattle.ots_asking.specs.Conversation.{Converses, ConverseUpTo, Question, query_of}
use Rattle.ots_asking.specs.Outcome.{IsOutcomeOf, IsUnreachableAs}
use Rattle.ots_asking.specs.declared.outcome.Outcome.{Outcome}
use Rattle.ots_base.specs.Told.{IfTold}
use Rattle.ots_base.specs.declared.out_of_memory.OutOfMemory.{OutOfMemory as NoMemory}
use Rattle.ots_conversation.specs.Conversation.{Sends, Talks, had, no_memory}
use Rattle.ots_http.specs.ReplyTable.{IsReplyAnswer}
use Rattle.ots_http.specs.declared.reply.HttpReply.{HttpReply}
use Rattle.ots_http.specs.declared.reply.ReplyError.{ReplyError}
use Rattle.ots_http.specs.declared.reply.ReplyError.TheVariants.{OutOfMemory}
use Rattle.ots_outside.specs.Dialer.{DialerTold, Sent, next_reply}

where_then : (s : Option (List Sent)) (rs : Option (List (List ℕ))) (P Q : List Sent → List (List ℕ) → Type 0)
    → ((sent : List Sent) (replies : List (List ℕ)) → P sent replies → Q sent replies)
    → IfTold s (λ sent. IfTold rs (P sent)) → IfTold s (λ sent. IfTold rs (Q sent))
where_then None rs P Q f h = tt
where_then (Some sent) None P Q f h = tt
where_then (Some sent) (Some replies) P Q f h = f sent replies h

module _ {D : Type 0} (told : D → DialerTold) (faults : D → ℕ) (q : Question) {old new : D} where
  failed_as : {P R : Type 0} → (P → R) → Sends told faults (query_of q) P old new → Sends told faults (query_of q) R old new
  failed_as f all = record { prefix = all.prefix; whole = λ good. all.whole (λ failed. good (f failed)); replies = all.replies; slots = all.slots; later = all.later }

  module _ (read : Result HttpReply ReplyError) where
    -- It has an outcome.
    pub converses : Talks told faults (query_of q) old new read → (result : Result Outcome NoMemory)
        → ((reply : List ℕ) → IsReplyAnswer reply read → IfOk result (IsOutcomeOf q.length q.depth reply)) → IfOk result (IsUnreachableAs read)
        → IfOk result (λ outcome. read ≢ Err OutOfMemory) → IfOk result (Converses told faults q old new)
    converses talks (Err e) of unreachable memory = tt
    converses (had sends answer cause) (Ok outcome) of unreachable memory = record {
      sends = failed_as unreachable.1 sends;
      outcome_is = where_then (told old).sent (told old).replies _ _ (λ sent replies answer. of (next_reply replies) answer) answer;
      cause = λ failed. cause (unreachable.0 failed);
    }
    converses (no_memory is keeps) (Ok outcome) of unreachable memory = absurd (memory is)

    -- Memory ran out in it, or after it.
    pub breaks_off : {T E : Type 0} → Talks told faults (query_of q) old new read → (result : Result T E)
        → OnErr result (ConverseUpTo told faults (q ∷ []) old new)
    breaks_off talks (Ok x) = tt
    breaks_off (had sends answer cause) (Err e) = inr (inl (failed_as cause sends))
    breaks_off (no_memory is keeps) (Err e) = inl keeps
