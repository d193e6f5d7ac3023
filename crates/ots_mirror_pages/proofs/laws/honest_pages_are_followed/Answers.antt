use Rattle.ots_mirror_pages.proofs.Honest.{followed}
use Rattle.ots_mirror_pages.proofs.laws.honest_pages_are_followed.Goals as goal

pub returns : goal.returns
returns c = followed
