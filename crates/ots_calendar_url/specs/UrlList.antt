-- Lists of calendar URLs, with commas between. Source: this project's profile.
use Rattle.std.specs.Prelude.{◌≡◌, ◌≢◌, ℕ, ◌+◌, ◌<◌, List, [], ◌∷◌, ◌++◌, length, sum_by, map, All}
use Rattle.std.specs.List.{AllByRecursion}
use Rattle.ots_address.specs.declared.limits.TheConstants.{MAX_CALENDARS}
use Rattle.ots_address.specs.AddressList.{pieces_of}
use Rattle.ots_calendar_url.specs.declared.url.Scheme.{Scheme}
use Rattle.ots_calendar_url.specs.declared.list.UrlError.{UrlError}
use Rattle.ots_calendar_url.specs.declared.list.UrlError.TheVariants.{BadAddress, OutOfMemory}
use Rattle.ots_calendar_url.specs.CalendarUrl.{IsUrl, Url, text_of}

-- A piece is a URL, none of those before it is the same, and there is room for it.
pub record IsNext (before : List (List ℕ)) (piece : List ℕ) : Type 0 where
  pub url : (scheme : Scheme) × IsUrl piece scheme
  pub fresh : All (λ (earlier : List ℕ). earlier ≢ piece) before
  pub few : length before < MAX_CALENDARS

-- Each piece in turn is the next URL after these and the pieces between.
abbrev pub AreNext : List (List ℕ) → List (List ℕ) → Type 0
AreNext before [] = Unit {0}
AreNext before (piece ∷ pieces) = IsNext before piece × AreNext (before ++ piece ∷ []) pieces

abbrev pub AreUrls : List (List ℕ) → Type 0
AreUrls pieces = AreNext [] pieces

abbrev pub HasScheme : Url → Type 0
HasScheme url = IsUrl url.text url.scheme

-- The URLs of a list, in order: each has a piece's text, and the scheme that the text has.
pub record IsListOf (list : List ℕ) (urls : List Url) : Type 0 where
  pub texts : pieces_of list ≡ map text_of urls
  pub schemes : AllByRecursion HasScheme urls
  pub good : AreUrls (pieces_of list)

-- The first piece that is not the next URL stands at this place.
pub record IsBadUrl (list : List ℕ) (place : ℕ) : Type 0 where
  pub before : List (List ℕ)
  pub bad : List ℕ
  pub after : List (List ℕ)
  pub split : pieces_of list ≡ before ++ bad ∷ after
  pub good : AreUrls before
  pub refused : IsNext before bad → ⊥
  pub place_is : place ≡ sum_by (λ (piece : List ℕ). length piece + 1) before

abbrev pub IfBadUrl : List ℕ → UrlError → Type 0
IfBadUrl list (BadAddress place) = IsBadUrl list place
IfBadUrl list OutOfMemory = Unit {0}
