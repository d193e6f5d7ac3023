use Rattle.std.proofs.Common.{◌≢◌, ℕ, List, map, subst, arith}
use Rattle.std.specs.Prelude.{All}
use Rattle.std.proofs.lemmas.List.{take_all}
use Rattle.ots_calendar_url.specs.CalendarUrl.{text_of}
use Rattle.ots_calendar_url.proofs.Lists.{has_text_at, lacks_text_more}
use Rattle.ots_calendar_url.proofs.list.has_text.Goals as goal

pub returns-then-eq-clause-yes : goal.returns-then-eq-clause-yes
returns-then-eq-clause-yes c = λ _ all.
    has_text_at c.args.urls.now c.loop-url.url-index c.url-item.result _ _ _ (omega arith) c.url-item.is c.text.ensures.text c.eq.ensures c.if-eq.true all

pub loop-url-preserved : goal.loop-url-preserved
loop-url-preserved c =
    lacks_text_more c.args.urls.now c.loop-url.url-index c.url-item.result _ _ _ (omega arith) c.url-item.is c.text.ensures.text c.eq.ensures c.if-eq.false c.loop-url.invariant

pub returns-clause-no : goal.returns-clause-no
returns-clause-no c = λ _.
    subst (λ z. All (λ (earlier : List ℕ). earlier ≢ c.args.text.now) (map text_of z)) (take_all c.loop-url.url-index c.args.urls.now (omega arith)) c.loop-url.invariant
