-- What a proof wants of the calendars of a list. Source: this project's rule of what an archive asks for. What is asked
-- is as in python-opentimestamps (opentimestamps/calendar.py, RemoteCalendar.submit and get_timestamp).
use Rattle.std.specs.Prelude.{◌≡◌, ◌⊎◌, ℕ, List, [], Bool, true, false, bytes_eq, codes, count_by, drop, filter}
use Rattle.std.specs.Prelude.{length, map, not}
use Rattle.std.specs.List.{list_any}
use Rattle.ots_calendar_url.specs.CalendarUrl.{text_of}
use Rattle.ots_draft.specs.Draft.{IsDraft}
use Rattle.ots_ops.specs.declared.op.Op.{Op}
use Rattle.ots_pending.specs.Bitcoin.{HasBitcoin}
use Rattle.ots_pending.specs.Pairs.{ArePairs, PairAt}
use Rattle.ots_request_set.specs.RequestSet.{Asked, Has}
use Rattle.ots_sheet.specs.declared.request.Kind.{Kind}
use Rattle.ots_sheet.specs.declared.request.Kind.TheVariants.{Get, Post}
use Rattle.ots_sheet.specs.Request.{RequestParts, request_line}
use Rattle.ots_sheet.specs.Sheet.{AreInOrder, FitsSheet}
use Rattle.ots_tree.specs.declared.detached.Detached.{Detached}

-- The address that the URI of a pair names: what follows `post:` where a message is to be posted, else the whole URI.
abbrev pub address_of : Kind → List ℕ → List ℕ
address_of Get uri = uri
address_of Post uri = drop (length (codes "post:")) uri

-- the request for a pair
abbrev pub request_for : Kind → PairAt → RequestParts
request_for kind p = record { kind = kind; url = address_of kind p.pair.uri; message = p.pair.message }

-- whether a request is to one of these URLs, letter for letter
abbrev pub is_listed : List (List ℕ) → RequestParts → Bool
is_listed urls r = list_any (λ url. bytes_eq url r.url) urls

-- These are the requests for the pairs of a proof whose address is one of the URLs, and there are so many other pairs.
pub record Asks (urls : List (List ℕ)) (kind : Kind) (proof : Detached) (wanted : List RequestParts)
    (skipped : ℕ) : Type 0 where
  pub pairs : List PairAt
  pub are : ArePairs proof pairs
  pub listed : wanted ≡ filter (is_listed urls) (map (request_for kind) pairs)
  pub others : skipped ≡ count_by (λ r. not (is_listed urls r)) (map (request_for kind) pairs)

abbrev pub IsNoDraft : Detached → Type 0
IsNoDraft proof = (ops : List Op) → IsDraft proof ops → ⊥

-- A proof wants these requests, and skips so many pairs whose address is none of the URLs. A draft's message is posted.
-- What another proof is pending at is asked for, but of one with a Bitcoin path only where it is of all proofs.
pub data Wants (urls : List (List ℕ)) (all : Bool) (proof : Detached) (wanted : List RequestParts)
    (skipped : ℕ) : Type 0 where
  draft : (ops : List Op) → IsDraft proof ops → Asks urls Post proof wanted skipped
      → Wants urls all proof wanted skipped
  pending : IsNoDraft proof → (HasBitcoin proof.tree → all ≡ true) → Asks urls Get proof wanted skipped
      → Wants urls all proof wanted skipped
  complete : IsNoDraft proof → HasBitcoin proof.tree → all ≡ false → wanted ≡ [] → skipped ≡ 0
      → Wants urls all proof wanted skipped

-- the texts of the URLs of a set
abbrev pub texts_of : Asked → List (List ℕ)
texts_of a = map text_of a.urls

-- A set has gained some of the wanted requests, and nothing else.
pub record Gains (old new : Asked) (wanted : List RequestParts) : Type 0 where
  pub urls : new.urls ≡ old.urls
  pub keeps : (r : RequestParts) → Has old.requests r → Has new.requests r
  pub only : (r : RequestParts) → Has new.requests r → Has old.requests r ⊎ Has wanted r

-- The sheet of all requests of a set is within the limits of sheets.
abbrev pub IsWithin : Asked → Type 0
IsWithin a = FitsSheet (map request_line a.requests)

-- A set has taken in all of the wanted requests while it is within the limits. Once it is not, it takes in no more. Its
-- requests stay in the order of a sheet.
pub record TakesIn (old new : Asked) (wanted : List RequestParts) : Type 0 where
  pub gains : Gains old new wanted
  pub all : IsWithin new → (r : RequestParts) → Has wanted r → Has new.requests r
  pub full : (IsWithin old → ⊥) → new.requests ≡ old.requests
  pub order : AreInOrder old.requests → AreInOrder new.requests

-- A set has taken in what a proof wants, and so many pairs are skipped.
pub record TakesWanted (old new : Asked) (all : Bool) (proof : Detached) (skipped : ℕ) : Type 0 where
  pub wanted : List RequestParts
  pub wants : Wants (texts_of old) all proof wanted skipped
  pub takes : TakesIn old new wanted

-- A set has gained nothing but what a proof wants.
abbrev pub GainsWanted : Asked → Asked → Bool → Detached → Type 0
GainsWanted old new all proof = (wanted : List RequestParts) (skipped : ℕ)
    → Wants (texts_of old) all proof wanted skipped → Gains old new wanted
