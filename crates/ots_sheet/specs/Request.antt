-- A request to a calendar, and its line in a sheet. Source: this project's format of sheets. What is asked is as in
-- opentimestamps-server (otsserver/rpc.py): the digest that is posted to /digest, or the commitment of
-- GET /timestamp/COMMITMENT.
use Rattle.std.specs.Prelude.{◌≡◌, ◌≤◌, ℕ, List, ◌∷◌, ◌++◌, codes, length}
use Rattle.hex.specs.Hex.{IsBytes, encode_lower}
use Rattle.ots_base.specs.declared.limits.TheConstants.{MAX_MESSAGE}
use Rattle.ots_calendar_url.specs.declared.url.Scheme.{Scheme}
use Rattle.ots_calendar_url.specs.CalendarUrl.{IsUrl}
use Rattle.ots_sheet.specs.declared.limits.TheConstants.{POST_MESSAGE}
use Rattle.ots_sheet.specs.declared.request.Kind.{Kind}
use Rattle.ots_sheet.specs.declared.request.Kind.TheVariants.{Get, Post}
use Rattle.ots_sheet.specs.declared.request.Request.{Request}

-- What contracts see of a request.
pub record RequestParts : Type 0 where
  pub kind : Kind
  pub url : List ℕ
  pub message : List ℕ

abbrev pub request_parts : Request → RequestParts
request_parts r = record { kind = r.kind; url = r.url.now; message = r.message.now }

abbrev pub kind_word : Kind → List ℕ
kind_word Get = codes "get"
kind_word Post = codes "post"

abbrev pub blank : ℕ
blank = 32

-- The line, without its line feed: the word, the URL and the message in lower-case hexadecimal, with blanks between.
abbrev pub request_line : RequestParts → List ℕ
request_line r = kind_word r.kind ++ blank ∷ (r.url ++ blank ∷ encode_lower r.message)

-- How many bytes a message has.
abbrev pub HasLength : Kind → ℕ → Type 0
HasLength Get n = (1 ≤ n) × (n ≤ MAX_MESSAGE)
HasLength Post n = n ≡ POST_MESSAGE

pub record IsRequest (r : RequestParts) : Type 0 where
  pub scheme : Scheme
  pub url : IsUrl r.url scheme
  pub long : HasLength r.kind (length r.message)
  pub bytes : IsBytes r.message
