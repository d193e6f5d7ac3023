-- What the record of a file that this process makes is seen as.
use Rattle.std.specs.Prelude.{Bool, List}
use Rattle.ots_real.specs.FileCalls.{FileCall, calls_from}
use Rattle.ots_real.specs.declared.file_log.FileLog.{FileLog}

-- The calls, the newest first.
abbrev pub logged : FileLog → List FileCall
logged log = calls_from log.calls.notes

-- Whether one of them failed.
abbrev pub has_failed : FileLog → Bool
has_failed log = log.failed
