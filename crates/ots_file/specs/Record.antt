-- What the record of a file's calls is seen as.
use Rattle.std.specs.Prelude.{List}
use Rattle.ots_file.specs.Events.{FileEvent}
use Rattle.ots_file.specs.Note.{events_from}
use Rattle.ots_file.specs.declared.record.Record.{Record}

-- The calls with their answers, the newest first.
abbrev pub events_of : Record → List FileEvent
events_of log = events_from log.calls.notes
