use Rattle.std.proofs.Common.{[], take, map}
use Rattle.ots_calendar_url.specs.CalendarUrl.{text_of}
use Rattle.ots_draft.specs.Draft.{waiting}
use Rattle.ots_draft.specs.inner.Gathering.{HasPathsAny}
use Rattle.ots_draft.proofs.drafting.waiting_tree.Given as goal

-- The tree has a path for each URL before.
abbrev pub invariant-loop-url : goal.invariant-loop-url
invariant-loop-url l = HasPathsAny (waiting [] (map text_of (take l.url-index l.urls))) l.all
