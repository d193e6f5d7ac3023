-- One conversation with a calendar: what was sent in it, and what was read of its reply.
use Rattle.std.specs.Prelude.{◌≡◌, ◌≤◌, ◌⊎◌, ℕ, List, [], ◌∷◌, ◌++◌, length, take, drop, Some, Result, Err}
use Rattle.std.specs.Option.{option_map}
use Rattle.ots_base.specs.Cause.{Rose}
use Rattle.ots_base.specs.Told.{IfTold}
use Rattle.ots_address.specs.Address.{AddressParts}
use Rattle.ots_http.specs.declared.asking.Asked.{Asked}
use Rattle.ots_http.specs.declared.reply.HttpReply.{HttpReply}
use Rattle.ots_http.specs.declared.reply.ReplyError.{ReplyError}
use Rattle.ots_http.specs.declared.reply.ReplyError.TheVariants.{LinkFault, OutOfMemory}
use Rattle.ots_http.specs.ReplyTable.{IsReplyAnswer}
use Rattle.ots_http.specs.RequestText.{request_bytes}
use Rattle.ots_outside.specs.Dialer.{DialerTold, Sent, next_reply}

-- What a calendar is asked.
pub record Query : Type 0 where
  pub address : AddressParts
  pub asked : Asked

abbrev pub request_of : Query → List ℕ
request_of q = request_bytes q.address q.asked

-- these bytes, sent to the calendar that is asked
abbrev pub sent_to : Query → List ℕ → Sent
sent_to q bytes = record { host = q.address.host; port = q.address.port; bytes = bytes }

-- What holds where a dialer tells what was sent and its replies to come.
abbrev pub WhereTold : DialerTold → (List Sent → List (List ℕ) → Type 0) → Type 0
WhereTold told P = IfTold told.sent (λ sent. IfTold told.replies (P sent))

-- A request was sent: nothing of it where no conversation was begun, or a prefix of it in a conversation of its own;
-- all of it, but where `failed` holds. It took a reply, and left each slot as it was.
pub record Sends {D : Type 0} (told : D → DialerTold) (faults : D → ℕ) (q : Query) (failed : Type 0)
    (old new : D) : Type 0 where
  pub prefix : WhereTold (told old) (λ sent replies. ((told new).sent ≡ Some sent)
      ⊎ ((n : ℕ) × (n ≤ length (request_of q)) × ((told new).sent
      ≡ Some (sent ++ sent_to q (take n (request_of q)) ∷ []))))
  pub whole : ¬ failed
      → WhereTold (told old) (λ sent replies. (told new).sent ≡ Some (sent ++ sent_to q (request_of q) ∷ []))
  pub replies : (told new).replies ≡ option_map (drop 1) (told old).replies
  pub slots : (k : ℕ) → (told new).slots k ≡ (told old).slots k
  pub later : faults old ≤ faults new

-- Nothing that is told changed.
pub record KeepsTold {D : Type 0} (told : D → DialerTold) (faults : D → ℕ) (old new : D) : Type 0 where
  pub sent : (told new).sent ≡ (told old).sent
  pub replies : (told new).replies ≡ (told old).replies
  pub slots : (k : ℕ) → (told new).slots k ≡ (told old).slots k
  pub later : faults old ≤ faults new

-- A conversation was had: what was read is the answer of its own reply, or memory ran out for that, or the link failed,
-- and the count of faults rose in it. Or memory ran out before it began.
pub data Talks {D : Type 0} (told : D → DialerTold) (faults : D → ℕ) (q : Query) (old new : D)
    (read : Result HttpReply ReplyError) : Type 0 where
  had : Sends told faults q (read ≡ Err LinkFault) old new
      → WhereTold (told old) (λ sent replies. IsReplyAnswer (next_reply replies) read)
      → (read ≡ Err LinkFault → Rose (faults old) (faults new)) → Talks told faults q old new read
  no_memory : read ≡ Err OutOfMemory → KeepsTold told faults old new → Talks told faults q old new read
