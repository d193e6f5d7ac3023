-- The bytes of a reply that a calendar writes. Source: RFC 9112, sections 2.1 and 4, with the statuses, fields and
-- words of this project's HTTP profile.
use Rattle.std.specs.Prelude.{◌≡◌, ◌≤◌, ℕ, ◌+◌, List, ◌++◌, length, codes, decimal, nat_eq, if◌then◌else◌}
use Rattle.ots_base.specs.declared.limits.TheConstants.{MAX_PROOF_FILE, MAX_REPLY_BODY}
use Rattle.ots_tree.specs.Wire.{spelled}
use Rattle.ots_http.specs.declared.replying.Reply.{Reply}
use Rattle.ots_http.specs.declared.replying.Reply.TheVariants.{Tree, Page, Text}
use Rattle.ots_http.specs.declared.word.Word.{Word}
use Rattle.ots_http.specs.declared.word.Word.TheVariants.{BadRequest, NotFound, Pending, MethodNotAllowed}
use Rattle.ots_http.specs.declared.word.Word.TheVariants.{LengthRequired, TooLarge, Clock, Busy, Disk, Nonce}
use Rattle.ots_http.specs.declared.word.Word.TheVariants.{Upstream, JournalFull}

-- The status of the line in which the words stand.
abbrev pub status_of : Word → ℕ
status_of BadRequest = 400
status_of NotFound = 404
status_of Pending = 404
status_of MethodNotAllowed = 405
status_of LengthRequired = 411
status_of TooLarge = 413
status_of Clock = 500
status_of Busy = 503
status_of Disk = 503
status_of Nonce = 503
status_of Upstream = 503
status_of JournalFull = 507

-- The phrase of that status (RFC 9110, section 15; RFC 4918, section 11.5, for 507).
abbrev pub phrase_of : Word → List ℕ
phrase_of BadRequest = codes "Bad Request"
phrase_of NotFound = codes "Not Found"
phrase_of Pending = codes "Not Found"
phrase_of MethodNotAllowed = codes "Method Not Allowed"
phrase_of LengthRequired = codes "Length Required"
phrase_of TooLarge = codes "Content Too Large"
phrase_of Clock = codes "Internal Server Error"
phrase_of Busy = codes "Service Unavailable"
phrase_of Disk = codes "Service Unavailable"
phrase_of Nonce = codes "Service Unavailable"
phrase_of Upstream = codes "Service Unavailable"
phrase_of JournalFull = codes "Insufficient Storage"

abbrev pub words_of : Word → List ℕ
words_of BadRequest = codes "bad request"
words_of NotFound = codes "not found"
words_of Pending = codes "pending"
words_of MethodNotAllowed = codes "method not allowed"
words_of LengthRequired = codes "length required"
words_of TooLarge = codes "too large"
words_of Clock = codes "clock"
words_of Busy = codes "busy"
words_of Disk = codes "disk"
words_of Nonce = codes "nonce"
words_of Upstream = codes "upstream"
words_of JournalFull = codes "journal full"

-- The words for a request that is refused with this status. The table of requests has no other status than these five.
abbrev pub refusal : ℕ → Word
refusal status =
    if nat_eq status 400 then BadRequest
    else (if nat_eq status 405 then MethodNotAllowed
    else (if nat_eq status 411 then LengthRequired
    else (if nat_eq status 413 then TooLarge
    else NotFound)))

-- The head of a reply: its status and phrase, the type and the length of its body.
abbrev pub reply_head : ℕ → List ℕ → List ℕ → ℕ → List ℕ
reply_head status phrase kind size =
    codes "HTTP/1.1 " ++ decimal status ++ codes " " ++ phrase ++ codes "\r\nContent-Type: " ++ kind
    ++ codes "\r\nContent-Length: " ++ decimal size
    ++ codes "\r\nConnection: close\r\n\r\n"

-- The reply with this status and these words.
abbrev pub text_reply : ℕ → Word → List ℕ
text_reply status word = reply_head status (phrase_of word) (codes "text/plain") (length (words_of word) + 1)
    ++ words_of word ++ codes "\n"

-- The reply with these bytes, of a tree or of a page.
abbrev pub octets_reply : List ℕ → List ℕ
octets_reply bytes = reply_head 200 (codes "OK") (codes "application/octet-stream") (length bytes) ++ bytes

abbrev pub reply_bytes : Reply → List ℕ
reply_bytes (Tree tokens) = octets_reply (spelled tokens)
reply_bytes (Page bytes) = octets_reply bytes
reply_bytes (Text status word) = text_reply status word

-- The status and the words stand in one line of the table, a tree has at most as many bytes as a proof file, and a page
-- at most as many as a client takes.
abbrev pub IsReply : Reply → Type 0
IsReply (Tree tokens) = length (spelled tokens) ≤ MAX_PROOF_FILE
IsReply (Page bytes) = length bytes ≤ MAX_REPLY_BODY
IsReply (Text status word) = status ≡ status_of word
