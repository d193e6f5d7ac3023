-- Sheets of requests and of replies. Source: this project's format of sheets.
use Rattle.std.specs.Prelude.{◌≡◌, ◌≢◌, ◌+◌, ◌<◌, ◌≤◌, ℕ, List, [], ◌∷◌, ◌++◌, codes, decimal, length, map, slice_index_or}
use Rattle.std.specs.List.{AllByRecursion}
use Rattle.std.specs.Cmp.Lexicographic.{slice_cmp}
use Rattle.std.specs.Ordering.{nat_cmp}
use Rattle.std.specs.declared.cmp.Ordering.TheVariants.{Less}
use Rattle.hex.specs.Hex.{encode_lower}
use Rattle.sha2.specs.Sha256.{sha256}
use Rattle.ots_sheet.specs.declared.limits.TheConstants.{MAX_LINES, MAX_SHEET}
use Rattle.ots_sheet.specs.Request.{IsRequest, RequestParts, blank, request_line}
use Rattle.ots_sheet.specs.Reply.{Answer, IsAnswer, reply_line, request_of}

-- lines, each with its line feed
abbrev pub lines_text : List (List ℕ) → List ℕ
lines_text [] = []
lines_text (line ∷ lines) = line ++ 10 ∷ lines_text lines

-- The last line of a sheet: how many lines stand before it, and the SHA-256 of their bytes, with their line feeds.
abbrev pub sum_line : List (List ℕ) → List ℕ
sum_line lines = codes "sum " ++ (decimal (length lines) ++ blank ∷ encode_lower (sha256 (lines_text lines)))

-- these lines, and the last one
abbrev pub sheet : List (List ℕ) → List ℕ
sheet lines = lines_text lines ++ (sum_line lines ++ 10 ∷ [])

-- So many lines of so many bytes may stand in a sheet.
pub record Fits (lines : List (List ℕ)) : Type 0 where
  pub few : length lines ≤ MAX_LINES
  pub small : length (lines_text lines) ≤ MAX_SHEET

-- The same of a whole sheet, with its last line.
abbrev pub FitsSheet : List (List ℕ) → Type 0
FitsSheet lines = Fits (lines ++ sum_line lines ∷ [])

-- Each line comes before each later one, by their bytes. So none stands twice.
abbrev pub AreInOrder : List RequestParts → Type 0
AreInOrder requests = (r : RequestParts) (i j : ℕ) → i < j → j < length requests
    → slice_cmp nat_cmp (request_line (slice_index_or requests i r)) (request_line (slice_index_or requests j r)) ≡ Less

-- ---- requests

abbrev pub request_sheet : List RequestParts → List ℕ
request_sheet requests = sheet (map request_line requests)

-- What a request sheet may have.
pub record IsRequests (requests : List RequestParts) : Type 0 where
  pub each : AllByRecursion IsRequest requests
  pub order : AreInOrder requests
  pub fits : FitsSheet (map request_line requests)

-- ---- replies

abbrev pub reply_lines : List Answer → List (List ℕ)
reply_lines answers = map reply_line answers

abbrev pub reply_sheet : List Answer → List ℕ
reply_sheet answers = sheet (reply_lines answers)

-- Valid requests in order, each with its reply.
pub record AreAnswers (answers : List Answer) : Type 0 where
  pub each : AllByRecursion IsAnswer answers
  pub order : AreInOrder (map request_of answers)

-- What a reply sheet may have.
pub record IsReplies (answers : List Answer) : Type 0 where
  pub good : AreAnswers answers
  pub fits : FitsSheet (reply_lines answers)

-- A text begins with the lines of these answers, and has this rest after them.
pub record Begins (text : List ℕ) (answers : List Answer) (rest : List ℕ) : Type 0 where
  pub good : AreAnswers answers
  pub fits : Fits (reply_lines answers)
  pub whole : text ≡ lines_text (reply_lines answers) ++ rest

-- A text begins with the reply sheet of these answers, and has this rest after it.
pub record BeginsSheet (text : List ℕ) (answers : List Answer) (rest : List ℕ) : Type 0 where
  pub replies : IsReplies answers
  pub whole : text ≡ reply_sheet answers ++ rest

-- The line with this number, counted from 1, is the first that is not as it is to be: after some answers it is neither
-- one answer more nor the sum, or something follows the sum.
pub data IsBadSheet (text : List ℕ) (number : ℕ) : Type 0 where
  neither : (answers : List Answer) (rest : List ℕ) → Begins text answers rest → number ≡ length answers + 1
      → ((more : Answer) (after : List ℕ) → Begins text (answers ++ more ∷ []) after → ⊥)
      → ((after : List ℕ) → BeginsSheet text answers after → ⊥) → IsBadSheet text number
  follows : (answers : List Answer) (rest : List ℕ) → BeginsSheet text answers rest → rest ≢ []
      → number ≡ length answers + 2 → IsBadSheet text number
