-- When a link is answered.
use Rattle.std.specs.Prelude.{◌≡◌, ◌≢◌, ℕ, Bool, true, false, List, [], Option}
use Rattle.ots_base.specs.Told.{IfTold}
use Rattle.ots_calendar.specs.Answer.{answer}
use Rattle.ots_http.specs.ReplyText.{reply_bytes}
use Rattle.ots_http.specs.RequestTable.{IsRequest}
use Rattle.ots_http.specs.declared.request.Request.{Request}
use Rattle.ots_http.specs.declared.request.Request.TheVariants.{Digest, Timestamp, Records, Refused}
use Rattle.ots_http.specs.declared.word.Word.TheVariants.{Nonce, Clock, Busy, Disk, JournalFull}
use Rattle.ots_outside.specs.Link.{LinkTold, whole_input}
use Rattle.ots_round.specs.declared.ticket.Receipt.{Receipt}
use Rattle.ots_shared.specs.Records.{StartsWith}
use Rattle.ots_store.specs.Page.{page_of}
use Rattle.ots_store.specs.Records.{Record}
use Rattle.ots_tree.specs.declared.token.Token.{Token}
use Rattle.ots_connection.specs.declared.due.Due.{Due}
use Rattle.ots_connection.specs.declared.served.Served.{Served}
use Rattle.ots_connection.specs.declared.served.Served.TheVariants.{Stamped, Replied, Closed, LinkFault, OutOfMemory}
use Rattle.ots_http.specs.ReplyText.{refusal}
use Rattle.ots_connection.specs.Replies.{in_words, answered, paged, stamp}
use Rattle.ots_connection.specs.Stamping.{Stamps}

-- Memory did not run out.
abbrev pub is_answer : Served → Bool
is_answer (Stamped receipt) = true
is_answer (Replied status) = true
is_answer Closed = true
is_answer LinkFault = true
is_answer OutOfMemory = false

-- The replies to a digest, with some outcome of nonce, clock and disk and some answer of the calendar by records that
-- may be.
pub data IsDigestReply (may : List Record → Type 0) (leaf : List ℕ) (due : Due) : Type 0 where
  no_nonce : due ≡ in_words Nonce → IsDigestReply may leaf due
  late : due ≡ in_words Clock → IsDigestReply may leaf due
  busy : due ≡ in_words Busy → IsDigestReply may leaf due
  disk : due ≡ in_words Disk → IsDigestReply may leaf due
  full : due ≡ in_words JournalFull → IsDigestReply may leaf due
  stamped : (records : List Record) (nonce uri : List ℕ) (tree : List Token) (receipt : Receipt) → may records
      → Stamps records leaf nonce uri tree receipt → due ≡ stamp tree receipt
      → IsDigestReply may leaf due

-- What may be due for a request.
abbrev pub IsDueFor : (List Record → Type 0) → Request → Due → Type 0
IsDueFor may (Digest leaf) due = IsDigestReply may leaf due
IsDueFor may (Timestamp commitment) due = (records : List Record) × may records
    × (due ≡ answered (answer records commitment))
IsDueFor may (Records number) due = (records : List Record) × may records × (due ≡ paged (page_of records number))
IsDueFor may (Refused status) due = due ≡ in_words (refusal status)

-- These bytes are one whole reply for this input.
pub record IsReplyTo (may : List Record → Type 0) (input bytes : List ℕ) : Type 0 where
  pub request : Request
  pub asks : IsRequest input request
  pub due : Due
  pub is_due : IsDueFor may request due
  pub whole : bytes ≡ reply_bytes due.reply

-- A link is answered by records that may be where it does not tell its bytes, or its count of faults is not 0, or its
-- input is empty, or what it has taken is one whole reply for its input.
abbrev pub IsAnsweredBy : (List Record → Type 0) → Option LinkTold → ℕ → Type 0
IsAnsweredBy may told faults = IfTold told (λ link. faults ≡ 0 → whole_input link ≢ []
    → ∥ IsReplyTo may (whole_input link) link.taken ∥₁)

-- By some records.
abbrev pub any : List Record → Type 0
any records = Unit {0}

abbrev pub IsAnswered : Option LinkTold → ℕ → Type 0
IsAnswered told faults = IsAnsweredBy any told faults

-- By what these begin with.
abbrev pub IsAnsweredWithin : List Record → Option LinkTold → ℕ → Type 0
IsAnsweredWithin records told faults = IsAnsweredBy (StartsWith records) told faults
