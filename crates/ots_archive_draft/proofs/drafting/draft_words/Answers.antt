use Rattle.std.proofs.Common.{sym, map, length, ap, ◌∙◌}
use Rattle.std.proofs.lemmas.List.{length-map}
use Rattle.ots_archive_draft.specs.Drafts.{DraftsFiles}
use Rattle.ots_archive_draft.specs.Files.{HashesAll, ReadsHash}
use Rattle.ots_archive_steps.specs.Ends.{IfRoom}
use Rattle.ots_archive_steps.proofs.Ending.{ends_next}
use Rattle.ots_archive_steps.proofs.Turns.{each_long}
use Rattle.ots_arguments.specs.Values.{texts}
use Rattle.ots_calendar_url.specs.CalendarUrl.{text_of}
use Rattle.ots_archive_draft.proofs.drafting.draft_words.Goals as goal

pub draft_files-requires-clause-each : goal.draft_files-requires-clause-each
draft_files-requires-clause-each g c = sym (ap length c.deref.ensures.value
    ∙ each_long (λ name. IfRoom (ReadsHash name)) (texts c.args.names.now) _ _ c.in-Ok.digests.items c.in-Ok.ensures.hashes ∙ length-map c.args.names.now (λ s. s.now))

pub returns-in-Ok : goal.returns-in-Ok
returns-in-Ok g c = ends_next (HashesAll (texts c.args.names.now)) (DraftsFiles (map text_of c.args.urls.now) (texts c.args.names.now)) _ _ _ c.in-Ok.digests.items _ c.in-Ok.ensures.hashes
    (rw (sym c.deref.ensures.value) c.draft_files.ensures)
