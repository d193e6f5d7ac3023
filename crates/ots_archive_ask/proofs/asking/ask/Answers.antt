use Rattle.std.proofs.Common.{map}
use Rattle.ots_archive_ask.specs.Asks.{AsksUrls}
use Rattle.ots_archive_steps.proofs.Ending.{ends_next}
use Rattle.ots_archive_steps.specs.Inputs.{ReadsList}
use Rattle.ots_archive_words.specs.Words.{read_asking}
use Rattle.ots_calendar_url.specs.CalendarUrl.{text_of}
use Rattle.ots_archive_ask.proofs.asking.ask.Goals as goal

pub returns-in-Ok : goal.returns-in-Ok
returns-in-Ok g c =
    ends_next (ReadsList c.args.asked.calendars.now) (λ urls. AsksUrls (read_asking c.args.asked) (map text_of urls.items)) _ _ _ c.in-Ok.urls _ c.in-Ok.ensures c.ask_urls.ensures
