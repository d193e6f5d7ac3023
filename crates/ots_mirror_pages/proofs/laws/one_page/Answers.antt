use Rattle.ots_mirror_pages.proofs.Reading.{same_page}
use Rattle.ots_mirror_pages.proofs.laws.one_page.Goals as goal

pub returns : goal.returns
returns c = same_page
