-- What came of a request, and its line in a reply sheet. Source: this project's format of sheets. A status is that of
-- HTTP (RFC 9110, section 15).
use Rattle.std.specs.Prelude.{◌≢◌, ◌≤◌, ℕ, List, ◌∷◌, ◌++◌, codes, decimal, length}
use Rattle.hex.specs.Hex.{IsBytes, encode_lower}
use Rattle.ots_base.specs.declared.limits.TheConstants.{MAX_REPLY_BODY}
use Rattle.ots_sheet.specs.declared.reply.Reply.{Reply}
use Rattle.ots_sheet.specs.declared.reply.Reply.TheVariants as borrowed
use Rattle.ots_sheet.specs.Request.{RequestParts, IsRequest, blank, request_line}

-- What contracts see of a reply.
pub data ReplyParts : Type 0 where
  Body : List ℕ → ReplyParts
  Status : ℕ → ReplyParts
  Nothing : ReplyParts

abbrev pub reply_parts : Reply → ReplyParts
reply_parts (borrowed.Body bytes) = Body bytes.now
reply_parts (borrowed.Status code) = Status code
reply_parts borrowed.Nothing = Nothing

-- 200, another status, or 000 where no whole reply was had.
abbrev pub code_text : ReplyParts → List ℕ
code_text (Body bytes) = codes "200"
code_text (Status code) = decimal code
code_text Nothing = codes "000"

-- The body in lower-case hexadecimal, or a dash.
abbrev pub body_text : ReplyParts → List ℕ
body_text (Body bytes) = encode_lower bytes
body_text (Status code) = codes "-"
body_text Nothing = codes "-"

abbrev pub reply_words : ReplyParts → List ℕ
reply_words reply = code_text reply ++ blank ∷ body_text reply

abbrev pub IsReply : ReplyParts → Type 0
IsReply (Body bytes) = (1 ≤ length bytes) × (length bytes ≤ MAX_REPLY_BODY) × IsBytes bytes
IsReply (Status code) = (100 ≤ code) × (code ≤ 599) × (code ≢ 200)
IsReply Nothing = Unit {0}

-- A request and its reply.
pub record Answer : Type 0 where
  pub request : RequestParts
  pub reply : ReplyParts

abbrev pub request_of : Answer → RequestParts
request_of a = a.request

-- The line, without its line feed.
abbrev pub reply_line : Answer → List ℕ
reply_line a = request_line a.request ++ blank ∷ reply_words a.reply

abbrev pub IsAnswer : Answer → Type 0
IsAnswer a = IsRequest a.request × IsReply a.reply
