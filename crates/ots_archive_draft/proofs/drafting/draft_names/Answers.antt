use Rattle.std.proofs.Common.{sym}
use Rattle.ots_archive_draft.proofs.drafting.draft_names.Goals as goal

pub returns-in-Given : goal.returns-in-Given
returns-in-Given g c = rw (c.in-Given.is, sym c.deref.ensures.value) c.draft_words.ensures
