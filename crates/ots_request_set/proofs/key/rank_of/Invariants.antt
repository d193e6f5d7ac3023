use Rattle.std.proofs.Common.{◌≡◌, map, take}
use Rattle.ots_calendar_url.specs.CalendarUrl.{text_of}
use Rattle.ots_request_set.specs.inner.Key.{rank_in}
use Rattle.ots_request_set.proofs.key.rank_of.Given as goal

-- So many of the URLs up to here come before the text.
abbrev pub invariant-loop-url : goal.invariant-loop-url
invariant-loop-url l = l.rank ≡ rank_in (map text_of (take l.url-index l.urls)) l.text
