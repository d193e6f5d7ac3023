use Rattle.std.proofs.Common.{map}
use Rattle.ots_archive_ask.specs.Sheet.{WritesSheet}
use Rattle.ots_archive_ask.specs.Total.{TriesAll}
use Rattle.ots_archive_steps.proofs.Ending.{ends_next}
use Rattle.ots_archive_steps.specs.Ends.{IfRoom}
use Rattle.ots_archive_steps.specs.Entries.{entries_of}
use Rattle.ots_calendar_url.specs.CalendarUrl.{text_of}
use Rattle.ots_archive_ask.proofs.asking.ask_proofs.Goals as goal

pub returns-in-Ok : goal.returns-in-Ok
returns-in-Ok g c =
    let urls = map text_of c.args.urls.items in
    let gathers = c.in-Ok.ensures.gathers in
    ends_next (TriesAll urls c.args.all (entries_of c.args.entries.now)) (λ total. IfRoom (WritesSheet c.args.sheet.now urls total)) _ _ _ gathers.0 _ gathers.1
    (c.write_sheet.ensures c.args.urls.items gathers.0 gathers.2)
