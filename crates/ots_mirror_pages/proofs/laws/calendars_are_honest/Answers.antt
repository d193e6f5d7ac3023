use Rattle.ots_mirror_pages.proofs.Honest.{honest}
use Rattle.ots_mirror_pages.proofs.laws.calendars_are_honest.Goals as goal

pub returns : goal.returns
returns c = honest
