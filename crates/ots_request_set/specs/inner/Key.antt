-- How requests are kept: under keys of bytes, whose order is that of the requests.
use Rattle.std.specs.Prelude.{◌≡◌, ◌+◌, ◌*◌, ◌<◌, ◌^◌, ◌-◌, ℕ, zero, suc, Bool, List, [], ◌∷◌, decimal, drop, length, map, min, slice_index, slice_index_or, Some}
use Rattle.std.specs.Cmp.Lexicographic.{slice_cmp}
use Rattle.std.specs.List.{AllByRecursion, count_by, slice_get}
use Rattle.std.specs.Ordering.{is_lt, nat_cmp}
use Rattle.ots_calendar_url.specs.UrlList.{AreUrls}
use Rattle.ots_sheet.specs.declared.request.Kind.{Kind}
use Rattle.ots_sheet.specs.declared.request.Kind.TheVariants.{Get, Post}
use Rattle.ots_sheet.specs.Request.{IsRequest, RequestParts, kind_word, request_line}
use Rattle.ots_sheet.specs.Sheet.{lines_text}
use Rattle.ots_request_set.specs.RequestSet.{count_of}

abbrev pub kind_byte : Kind → ℕ
kind_byte Get = 0
kind_byte Post = 1

abbrev pub kind_of : ℕ → Kind
kind_of zero = Get
kind_of (suc n) = Post

-- whether a text comes before another
abbrev pub is_before : List ℕ → List ℕ → Bool
is_before text other = is_lt (slice_cmp nat_cmp text other)

-- how many texts come before this one
abbrev pub rank_in : List (List ℕ) → List ℕ → ℕ
rank_in texts text = count_by (λ t. is_before t text) texts

-- the key of a request to the URL at a place
abbrev pub key_of : List (List ℕ) → RequestParts → ℕ → List ℕ
key_of texts r place = kind_byte r.kind ∷ rank_in texts r.url ∷ place ∷ r.message

-- the request of a key
abbrev pub parts_of : List (List ℕ) → List ℕ → RequestParts
parts_of texts key = record {
  kind = kind_of (slice_index key 0);
  url = slice_index_or texts (slice_index key 2) [];
  message = drop 3 key;
}

abbrev pub requests_of : List (List ℕ) → List (List ℕ) → List RequestParts
requests_of texts keys = map (parts_of texts) keys

-- a key of a valid request to one of the URLs
pub record IsKey (texts : List (List ℕ)) (key : List ℕ) : Type 0 where
  pub request : RequestParts
  pub place : ℕ
  pub valid : IsRequest request
  pub url : slice_get texts place ≡ Some request.url
  pub is : key ≡ key_of texts request place

-- how many bytes lines have, with their line feeds
abbrev pub line_length : RequestParts → ℕ
line_length r = length (kind_word r.kind) + length r.url + 2 * length r.message + 3

abbrev pub all_length : List RequestParts → ℕ
all_length requests = length (lines_text (map request_line requests))

abbrev pub sum_line_length : ℕ → ℕ
sum_line_length count = length (decimal count) + 70

-- What is kept of a set.
pub record IsKept (texts keys : List (List ℕ)) (counts : List ℕ) (bytes : ℕ) : Type 0 where
  pub urls : AreUrls texts
  pub each : AllByRecursion (IsKey texts) keys
  pub counted : (i : ℕ) → i < length texts
      → slice_index counts i ≡ count_of (slice_index_or texts i []) (requests_of texts keys)
  pub long : bytes ≡ min (all_length (requests_of texts keys)) (2 ^ 64 - 1)
