-- Lists of calendars.
use Rattle.std.proofs.Common.{◌≡◌, ◌≤◌, ℕ, Bool, true, false, List, [], ◌∷◌, length, cond, arith}
use Rattle.std.specs.Prelude.{◌==◌}
use Rattle.std.specs.List.{onto_first}
use Rattle.ots_address.specs.AddressList.{comma, pieces_of}
use Rattle.ots_calendar_url.specs.CalendarUrl.{Url}
use Rattle.ots_calendar_url.specs.UrlList.{IsListOf}

onto_some : (b : Bool) (x : ℕ) (pieces : List (List ℕ)) → cond b ([] ∷ pieces) (onto_first x pieces) ≡ [] → ⊥
onto_some true x pieces none = absurd cc
onto_some false x [] none = absurd cc
onto_some false x (p ∷ pieces) none = absurd cc

-- there is always a piece
some_pieces : (list : List ℕ) → pieces_of list ≡ [] → ⊥
some_pieces [] none = absurd cc
some_pieces (x ∷ xs) none = onto_some (x == comma) x (pieces_of xs) none

-- A list has a calendar.
pub some_urls : (list : List ℕ) (urls : List Url) → IsListOf list urls → 1 ≤ length urls
some_urls list [] is = absurd (some_pieces list is.texts)
some_urls list (url ∷ urls) is = omega arith
