-- The numbers with which a program ends.
use Rattle.std.specs.Prelude.{ℕ}
use Rattle.ots_mirror_words.specs.declared.status.MirrorStatus.{MirrorStatus}
use Rattle.ots_mirror_words.specs.declared.status.MirrorStatus.TheVariants.{Done, Behind, Usage, WriteFault, BadAddress}
use Rattle.ots_mirror_words.specs.declared.status.MirrorStatus.TheVariants.{OutOfMemory, NotAJournal, Damaged}
use Rattle.ots_mirror_words.specs.declared.status.MirrorStatus.TheVariants.{BadRecord, Full, DiskFault, OldVersion}

abbrev pub number : MirrorStatus → ℕ
number Done = 0
number Behind = 1
number Usage = 2
number WriteFault = 7
number (BadAddress place https) = 14
number OutOfMemory = 20
number NotAJournal = 21
number (Damaged place) = 22
number (BadRecord index) = 23
number (Full need limit) = 24
number DiskFault = 25
number OldVersion = 35
