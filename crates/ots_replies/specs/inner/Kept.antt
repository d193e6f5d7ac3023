-- How answers are kept: their bytes in one list, and where each stands.
use Rattle.std.specs.Prelude.{◌≡◌, ◌+◌, ◌≤◌, ℕ, List, [], ◌++◌, drop, length, take, Result, Ok, Err}
use Rattle.ots_base.specs.declared.out_of_memory.OutOfMemory.{OutOfMemory}
use Rattle.ots_sheet.specs.Reply.{Answer, IsAnswer, ReplyParts}
use Rattle.ots_sheet.specs.Reply as parts
use Rattle.ots_replies.specs.declared.shape.Shape.{Shape}
use Rattle.ots_replies.specs.declared.store.Kept.{Kept}
use Rattle.ots_replies.specs.declared.store.KeptReply.{KeptReply}
use Rattle.ots_replies.specs.declared.store.KeptReply.TheVariants.{Body, Status, Nothing}
use Rattle.ots_replies.specs.inner.Shape.{Shows}

abbrev pub body_length : KeptReply → ℕ
body_length (Body count) = count
body_length (Status code) = 0
body_length Nothing = 0

abbrev pub IsWithin : ℕ → Kept → Type 0
IsWithin all k = k.start + k.url + k.message + body_length k.reply ≤ all

-- the reply whose body begins these bytes, if it has one
abbrev pub reply_at : KeptReply → List ℕ → ReplyParts
reply_at (Body count) bytes = parts.Body (take count bytes)
reply_at (Status code) bytes = parts.Status code
reply_at Nothing bytes = parts.Nothing

abbrev pub answer_in : List ℕ → Kept → Answer
answer_in bytes k = record {
  request = record {
    kind = k.kind;
    url = take k.url (drop k.start bytes);
    message = take k.message (drop (k.start + k.url) bytes);
  };
  reply = reply_at k.reply (drop (k.start + k.url + k.message) bytes);
}

abbrev pub body_bytes : ReplyParts → List ℕ
body_bytes (parts.Body bytes) = bytes
body_bytes (parts.Status code) = []
body_bytes parts.Nothing = []

abbrev pub KeepsReply : KeptReply → ReplyParts → Type 0
KeepsReply (Body count) (parts.Body bytes) = count ≡ length bytes
KeepsReply (Body count) (parts.Status code) = ⊥
KeepsReply (Body count) parts.Nothing = ⊥
KeepsReply (Status status) (parts.Body bytes) = ⊥
KeepsReply (Status status) (parts.Status code) = status ≡ code
KeepsReply (Status status) parts.Nothing = ⊥
KeepsReply Nothing (parts.Body bytes) = ⊥
KeepsReply Nothing (parts.Status code) = ⊥
KeepsReply Nothing parts.Nothing = Unit {0}

-- The bytes of an answer were added.
pub record Adds (old new : List ℕ) (a : Answer) (reply : KeptReply) : Type 0 where
  pub bytes : new ≡ old ++ (a.request.url ++ (a.request.message ++ body_bytes a.reply))
  pub keeps : KeepsReply reply a.reply

abbrev pub Keeps : List ℕ → List ℕ → Shape → Result KeptReply OutOfMemory → Type 0
Keeps old new shape (Ok reply) = (a : Answer) → IsAnswer a → Shows shape a → Adds old new a reply
Keeps old new shape (Err e) = Unit {0}
