use Rattle.std.proofs.Common.{◌≢◌, ℕ, List, map, take}
use Rattle.std.specs.Prelude.{All}
use Rattle.ots_calendar_url.specs.CalendarUrl.{text_of}
use Rattle.ots_request_set.proofs.set.place_among.Given as goal

-- None of the URLs up to here has the text.
abbrev pub invariant-loop-place : goal.invariant-loop-place
invariant-loop-place l = All (λ (other : List ℕ). other ≢ l.text) (map text_of (take l.place l.urls))
