-- The distinct requests to the calendars of a list. Source: this project's format of sheets.
use Rattle.std.specs.Prelude.{◌≡◌, ◌↔◌, ◌⊎◌, ℕ, List, [], ◌∷◌, bytes_eq, map, slice_index_or}
use Rattle.std.specs.List.{count_by}
use Rattle.ots_calendar_url.specs.CalendarUrl.{Url, text_of}
use Rattle.ots_sheet.specs.declared.request.Kind.{Kind}
use Rattle.ots_sheet.specs.Request.{RequestParts}
use Rattle.ots_sheet.specs.Sheet.{AreInOrder}

-- What contracts see of a set of requests: the URLs of the calendars, and the requests in the order of a sheet.
pub record Asked : Type 0 where
  pub urls : List Url
  pub requests : List RequestParts

-- the request is one of the list
abbrev pub Has : List RequestParts → RequestParts → Type 0
Has [] r = ⊥
Has (q ∷ qs) r = (q ≡ r) ⊎ Has qs r

-- the text of the URL at a place
abbrev pub text_at : Asked → ℕ → List ℕ
text_at a place = slice_index_or (map text_of a.urls) place []

-- a request to the URL at a place
abbrev pub request_to : Asked → Kind → ℕ → List ℕ → RequestParts
request_to a kind place message = record { kind = kind; url = text_at a place; message = message }

-- how many of the requests are to a URL
abbrev pub count_of : List ℕ → List RequestParts → ℕ
count_of url requests = count_by (λ r. bytes_eq r.url url) requests

-- One request more: what was there is there, and this one, and nothing else, in the order of a sheet. Where it was
-- there before, nothing changes.
pub record Adds (old new : Asked) (r : RequestParts) : Type 0 where
  pub urls : new.urls ≡ old.urls
  pub members : (q : RequestParts) → Has new.requests q ↔ (Has old.requests q ⊎ (q ≡ r))
  pub order : AreInOrder new.requests
  pub stays : Has old.requests r → new.requests ≡ old.requests
