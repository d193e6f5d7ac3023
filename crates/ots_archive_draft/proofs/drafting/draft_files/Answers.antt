use Rattle.std.proofs.Common.{sym, map}
use Rattle.ots_archive_draft.specs.Drafts.{DraftsTargets, WritesBatch}
use Rattle.ots_archive_draft.specs.Drawing.{DrawsAll}
use Rattle.ots_archive_steps.proofs.Ending.{ends_next, ends_room}
use Rattle.ots_arguments.specs.Values.{texts}
use Rattle.ots_calendar_url.specs.CalendarUrl.{text_of}
use Rattle.ots_archive_draft.proofs.drafting.draft_files.Goals as goal

pub returns-in-Ok-ways_of : goal.returns-in-Ok-ways_of
returns-in-Ok-ways_of g c = ends_next (DrawsAll c.args.digests.now) (DraftsTargets (map text_of c.args.urls.now) (texts c.args.names.now)) _ _ _ c.in-Ok.targets.items _ c.in-Ok.ensures.draws
    (ends_room (WritesBatch (record { addresses = map text_of c.args.urls.now; names = texts c.args.names.now; targets = c.in-Ok.targets.items })) _ _ _
    (rw (sym c.deref-in-Ok-ways_of.ensures.value) c.write_batch.ensures))
