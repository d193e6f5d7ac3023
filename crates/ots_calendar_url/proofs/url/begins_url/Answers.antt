use Rattle.ots_calendar_url.proofs.Urls.{begins, begins_not, no_truth}
use Rattle.ots_calendar_url.proofs.url.begins_url.Goals as goal

pub returns-in-Some : goal.returns-in-Some
returns-in-Some c =
    begins c.args.bytes.now c.args.word.now c.in-Some.rest.now c.is_authority.result c.in-Some.ensures.cases.0 c.in-Some.ensures.cases.1 c.is_authority.ensures

pub returns-in-None : goal.returns-in-None
returns-in-None c = (λ no. absurd (no_truth no), λ u. absurd (begins_not c.args.bytes.now c.args.word.now c.in-None.ensures.cases u))
