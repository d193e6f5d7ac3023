use Rattle.ots_mirror_pages.proofs.Honest.{goes_on}
use Rattle.ots_mirror_pages.proofs.laws.pages_go_on.Goals as goal

pub returns : goal.returns
returns c = goes_on
