use Rattle.std.proofs.Common.{◌≤◌, [], List, length, map, sym, subst, take, arith}
use Rattle.std.proofs.lemmas.List.{take_all}
use Rattle.ots_calendar_url.specs.CalendarUrl.{Url, text_of}
use Rattle.ots_draft.proofs.Leads.{more_waiting, some_paths}
use Rattle.ots_draft.specs.Draft.{waiting}
use Rattle.ots_draft.specs.inner.Gathering.{HasPaths, HasPathsAny}
use Rattle.ots_tree.specs.Wire.{Path}
use Rattle.ots_draft.proofs.drafting.waiting_tree.Goals as goal

pub loop-url-preserved : goal.loop-url-preserved
loop-url-preserved c =
    let i = c.loop-url.url-index in
    let urls = c.args.urls.now in
    subst (λ (ps : List Path). HasPaths ps c.in_ok-beside_any.field-0) (sym (more_waiting urls i c.url-item.result c.loop-url-test.true c.url-item.is))
    (c.in_ok-beside_any.ensures _ _ c.loop-url.invariant c.in_ok-waiting_end.ensures)

pub unwrap-requires : goal.unwrap-requires
unwrap-requires c =
    some_paths c.args.urls.now c.loop-url.all
    (subst (λ (us : List Url). HasPathsAny (waiting [] (map text_of us)) c.loop-url.all) (take_all c.loop-url.url-index c.args.urls.now c.loop-url-test.false)
    c.loop-url.invariant) c.requires

pub returns : goal.returns
returns c =
    subst (HasPathsAny (waiting [] (map text_of c.args.urls.now))) c.unwrap.ensures
    (subst (λ (us : List Url). HasPathsAny (waiting [] (map text_of us)) c.loop-url.all) (take_all c.loop-url.url-index c.args.urls.now c.loop-url-test.false)
    c.loop-url.invariant)
