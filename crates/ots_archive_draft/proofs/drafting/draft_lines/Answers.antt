use Rattle.std.proofs.Common.{sym, map}
use Rattle.ots_archive_draft.specs.Drafts.{DraftsFiles, DraftsNamed}
use Rattle.ots_archive_draft.specs.Files.{NamesLines}
use Rattle.ots_archive_steps.proofs.Ending.{ends_first, ends_next, ends_room}
use Rattle.ots_arguments.specs.Values.{texts}
use Rattle.ots_calendar_url.specs.CalendarUrl.{text_of}
use Rattle.ots_sums.specs.Sums.{digests}
use Rattle.ots_archive_draft.proofs.drafting.draft_lines.Goals as goal

pub returns-in-Err : goal.returns-in-Err
returns-in-Err g c = ends_first (NamesLines c.args.sums.now) (DraftsNamed (map text_of c.args.urls.now) c.args.sums.now) _ _ _ c.in-Err.ensures

pub returns-in-Ok-digests_of_lines : goal.returns-in-Ok-digests_of_lines
returns-in-Ok-digests_of_lines g c = ends_next (NamesLines c.args.sums.now) (DraftsNamed (map text_of c.args.urls.now) c.args.sums.now) _ _ _ (texts c.in-Ok.names.items) _ c.in-Ok.ensures
    (ends_room (DraftsFiles (map text_of c.args.urls.now) (texts c.in-Ok.names.items) (digests c.args.sums.now)) _ _ _
    (rw (sym c.deref.ensures.value, sym c.in-Ok-digests_of_lines.ensures.digests, sym c.deref-in-Ok-digests_of_lines.ensures.value) c.draft_files.ensures))
