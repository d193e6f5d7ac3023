use Rattle.std.proofs.Common.{◌≡◌, ℕ, Global, Vec, map}
use Rattle.std.specs.Map.Iter.{deref}
use Rattle.ots_calendar_url.specs.CalendarUrl.{text_of}
use Rattle.ots_sheet.specs.Request.{request_parts}
use Rattle.ots_request_set.specs.inner.Key.{requests_of}
use Rattle.ots_request_set.proofs.set.RequestSet.requests.Given as goal

-- The requests of the keys up to here.
abbrev pub invariant-loop-key : goal.invariant-loop-key
invariant-loop-key l =
    map request_parts l.requests.items ≡ requests_of (map text_of l.self-inside.urls.items) (map (λ (k : Vec ℕ Global). k.items) (map deref l.yielded))
