-- What a line tells of a request and its reply.
use Rattle.std.specs.Prelude.{◌≡◌, ◌&&◌, ◌||◌, ℕ, Bool, List, decimal, length, nat_le}
use Rattle.hex.specs.Hex.{IsBytes, encode_lower}
use Rattle.ots_sheet.specs.declared.request.Kind.{Kind}
use Rattle.ots_sheet.specs.Request.{HasLength, kind_word}
use Rattle.ots_sheet.specs.Reply.{Answer, IsAnswer, IsReply, ReplyParts, body_text, code_text, reply_line}
use Rattle.ots_sheet.specs.Reply as parts
use Rattle.ots_replies.specs.declared.shape.Outcome.{Outcome}
use Rattle.ots_replies.specs.declared.shape.Outcome.TheVariants.{Body, Status, Nothing}
use Rattle.ots_replies.specs.declared.shape.Shape.{Shape}
use Rattle.ots_replies.specs.declared.words.Words.{Words}

-- a lower-case hexadecimal digit
abbrev pub is_digit : ℕ → Bool
is_digit b = (nat_le 48 b && nat_le b 57) || (nat_le 97 b && nat_le b 102)

-- the digits of some bytes
pub record IsHex (digits : List ℕ) : Type 0 where
  pub bytes : List ℕ
  pub are : IsBytes bytes
  pub text : digits ≡ encode_lower bytes

pub record IsMessage (kind : Kind) (digits : List ℕ) : Type 0 where
  pub hex : IsHex digits
  pub long : HasLength kind (length hex.bytes)

pub record IsBody (digits : List ℕ) : Type 0 where
  pub hex : IsHex digits
  pub is : IsReply (parts.Body hex.bytes)

pub record IsOther (code : List ℕ) (status : ℕ) : Type 0 where
  pub text : code ≡ decimal status
  pub is : IsReply (parts.Status status)

-- ---- a reply

abbrev pub Tells : Outcome → ReplyParts → Type 0
Tells (Body digits) (parts.Body bytes) = digits.now ≡ encode_lower bytes
Tells (Body digits) (parts.Status code) = ⊥
Tells (Body digits) parts.Nothing = ⊥
Tells (Status status) (parts.Body bytes) = ⊥
Tells (Status status) (parts.Status code) = status ≡ code
Tells (Status status) parts.Nothing = ⊥
Tells Nothing (parts.Body bytes) = ⊥
Tells Nothing (parts.Status code) = ⊥
Tells Nothing parts.Nothing = Unit {0}

pub record TellsOutcome (code body : List ℕ) (outcome : Outcome) : Type 0 where
  pub reply : ReplyParts
  pub is : IsReply reply
  pub code_is : code ≡ code_text reply
  pub body_is : body ≡ body_text reply
  pub tells : Tells outcome reply

abbrev pub NoOutcome : List ℕ → List ℕ → Type 0
NoOutcome code body = (reply : ReplyParts) → IsReply reply → code ≡ code_text reply → body ≡ body_text reply → ⊥

-- ---- a request and its reply

pub record Shows (s : Shape) (a : Answer) : Type 0 where
  pub kind : s.kind ≡ a.request.kind
  pub url : s.url.now ≡ a.request.url
  pub message : s.message.now ≡ encode_lower a.request.message
  pub outcome : Tells s.outcome a.reply

pub record HasShape (line : List ℕ) (s : Shape) : Type 0 where
  pub answer : Answer
  pub is : IsAnswer answer
  pub text : line ≡ reply_line answer
  pub shows : Shows s answer

pub record AreWordsOf (w : Words) (a : Answer) : Type 0 where
  pub kind : w.kind.now ≡ kind_word a.request.kind
  pub url : w.url.now ≡ a.request.url
  pub message : w.message.now ≡ encode_lower a.request.message
  pub code : w.code.now ≡ code_text a.reply
  pub body : w.body.now ≡ body_text a.reply

pub record TellsWords (w : Words) (s : Shape) : Type 0 where
  pub answer : Answer
  pub is : IsAnswer answer
  pub words : AreWordsOf w answer
  pub shows : Shows s answer
  pub same_url : s.url.now ≡ w.url.now
