-- What contracts see of a file of the system.
use Rattle.std.specs.Prelude.{List}
use Rattle.ots_file.specs.Events.{FileEvent}
use Rattle.ots_file.specs.Record.{events_of}
use Rattle.ots_file.specs.declared.system_file.SystemFile.{SystemFile}

abbrev pub system_history : {R A : Type 0} → SystemFile R A → List FileEvent
system_history f = events_of f.log
