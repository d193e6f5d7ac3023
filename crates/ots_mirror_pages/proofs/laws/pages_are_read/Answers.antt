use Rattle.ots_mirror_pages.proofs.Reading.{page_read}
use Rattle.ots_mirror_pages.proofs.laws.pages_are_read.Goals as goal

pub returns : goal.returns
returns c = page_read
