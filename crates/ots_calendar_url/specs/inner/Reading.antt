-- For the loop of the reader of lists.
use Rattle.std.specs.Prelude.{◌≡◌, ℕ, List}
use Rattle.ots_calendar_url.specs.declared.list.UrlError.{UrlError}
use Rattle.ots_calendar_url.specs.declared.list.UrlError.TheVariants.{BadAddress, OutOfMemory}
use Rattle.ots_calendar_url.specs.UrlList.{IsNext}

-- A piece that stands at this place is refused after these.
abbrev pub IsRefusal : List (List ℕ) → List ℕ → ℕ → UrlError → Type 0
IsRefusal before piece at (BadAddress place) = (place ≡ at) × ¬ (IsNext before piece)
IsRefusal before piece at OutOfMemory = Unit {0}
