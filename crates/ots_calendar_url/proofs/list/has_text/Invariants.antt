use Rattle.std.proofs.Common.{◌≢◌, ℕ, List, map, take}
use Rattle.std.specs.Prelude.{All}
use Rattle.ots_calendar_url.specs.CalendarUrl.{text_of}
use Rattle.ots_calendar_url.proofs.list.has_text.Given as goal

-- None of the URLs up to here has the text.
abbrev pub invariant-loop-url : goal.invariant-loop-url
invariant-loop-url l = All (λ (earlier : List ℕ). earlier ≢ l.text) (map text_of (take l.url-index l.urls))
