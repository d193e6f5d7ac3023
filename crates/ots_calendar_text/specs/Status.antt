-- The numbers with which a program ends.
use Rattle.std.specs.Prelude.{ℕ}
use Rattle.ots_calendar_text.specs.declared.status.DaemonStatus.{DaemonStatus}
use Rattle.ots_calendar_text.specs.declared.status.DaemonStatus.TheVariants.{Done, NothingNew, Usage, NoFile, ReadFault}
use Rattle.ots_calendar_text.specs.declared.status.DaemonStatus.TheVariants.{WriteFault, TooBig, NonceFault, BadAddress}
use Rattle.ots_calendar_text.specs.declared.status.DaemonStatus.TheVariants.{OutOfMemory, NotAJournal, Damaged}
use Rattle.ots_calendar_text.specs.declared.status.DaemonStatus.TheVariants.{BadRecord, Full, DiskFault, NoTip, BadRoot}
use Rattle.ots_calendar_text.specs.declared.status.DaemonStatus.TheVariants.{TransactionTooLong, BadBlock, BadKey}
use Rattle.ots_calendar_text.specs.declared.status.DaemonStatus.TheVariants.{BadDigests, AcceptFault, BadSecond}
use Rattle.ots_calendar_text.specs.declared.status.DaemonStatus.TheVariants.{NotPrefix, OldVersion}

abbrev pub number : DaemonStatus → ℕ
number Done = 0
number NothingNew = 1
number Usage = 2
number NoFile = 4
number ReadFault = 6
number WriteFault = 7
number TooBig = 8
number NonceFault = 11
number (BadAddress place https) = 14
number OutOfMemory = 20
number NotAJournal = 21
number (Damaged place) = 22
number (BadRecord index) = 23
number (Full need limit) = 24
number DiskFault = 25
number NoTip = 26
number (BadRoot header computed) = 27
number (TransactionTooLong length) = 28
number (BadBlock place reason) = 29
number (BadKey length) = 30
number (BadDigests line) = 31
number AcceptFault = 32
number (BadSecond second) = 33
number (NotPrefix index) = 34
number OldVersion = 35
