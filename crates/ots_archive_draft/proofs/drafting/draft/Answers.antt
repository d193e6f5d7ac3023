use Rattle.std.proofs.Common.{sym}
use Rattle.ots_archive_draft.specs.Drafts.{DraftsFor}
use Rattle.ots_archive_steps.specs.Inputs.{ReadsList}
use Rattle.ots_archive_steps.proofs.Ending.{ends_next}
use Rattle.ots_archive_steps.proofs.Lists.{some_urls}
use Rattle.ots_archive_words.specs.Words.{read_names}
use Rattle.ots_archive_draft.proofs.drafting.draft.Goals as goal

pub draft_names-requires-clause-some : goal.draft_names-requires-clause-some
draft_names-requires-clause-some g c = rw c.deref.ensures.value (some_urls c.args.asked.calendars.now c.in-Ok.urls.items c.in-Ok.ensures.0)

pub returns-in-Ok : goal.returns-in-Ok
returns-in-Ok g c = ends_next (ReadsList c.args.asked.calendars.now) (DraftsFor (read_names c.args.asked.names)) _ _ _ c.in-Ok.urls _ c.in-Ok.ensures
    (rw (sym c.deref.ensures.value) c.draft_names.ensures)
