use Rattle.ots_calendar_url.proofs.Urls.{same_scheme}
use Rattle.ots_calendar_url.proofs.laws.one_scheme.Goals as goal

pub returns : goal.returns
returns c = same_scheme
