-- The head of a request or a reply: what the grammar of RFC 9112 is to httparse in its default configuration, in at
-- most MAX_HEAD bytes and with at most MAX_FIELDS fields.
use Rattle.std.specs.Prelude.{ℕ, ◌≤◌, List, length}
use Rattle.httparse.specs.Grammar.{Field, RequestHead, print_request, ReadsRequest, ResponseHead, print_response}
use Rattle.httparse.specs.Grammar.{ReadsResponse}
use Rattle.ots_http.specs.declared.limits.TheConstants.{MAX_HEAD, MAX_FIELDS}

-- A head is printed in at most MAX_HEAD bytes, and has at most MAX_FIELDS fields.
pub record IsWithinLimits (printed : List ℕ) (fields : List Field) : Type 0 where
  pub short : length printed ≤ MAX_HEAD
  pub few : length fields ≤ MAX_FIELDS

-- The input is this head and then the body.
pub record HasRequestHead (input : List ℕ) (h : RequestHead) (body : List ℕ) : Type 0 where
  pub reads : ReadsRequest input h body
  pub limits : IsWithinLimits (print_request h) h.fields

-- No prefix of the input is such a head.
abbrev pub HasNoRequestHead : List ℕ → Type 0
HasNoRequestHead input = (h : RequestHead) (body : List ℕ) → HasRequestHead input h body → ⊥

-- The same of a reply.
pub record HasReplyHead (input : List ℕ) (h : ResponseHead) (body : List ℕ) : Type 0 where
  pub reads : ReadsResponse input h body
  pub limits : IsWithinLimits (print_response h) h.fields

abbrev pub HasNoReplyHead : List ℕ → Type 0
HasNoReplyHead input = (h : ResponseHead) (body : List ℕ) → HasReplyHead input h body → ⊥
