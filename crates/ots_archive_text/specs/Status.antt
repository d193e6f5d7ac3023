-- The numbers with which a program ends.
use Rattle.std.specs.Prelude.{ℕ}
use Rattle.ots_archive_text.specs.declared.status.ArchiveStatus.{ArchiveStatus}
use Rattle.ots_archive_text.specs.declared.status.ArchiveStatus.TheVariants.{Done, Pending, Usage, BadProof, NoFile}
use Rattle.ots_archive_text.specs.declared.status.ArchiveStatus.TheVariants.{Exists, ReadFault, BadName, WriteFault}
use Rattle.ots_archive_text.specs.declared.status.ArchiveStatus.TheVariants.{TooBig, TooFew, NonceFault, FileTooLong}
use Rattle.ots_archive_text.specs.declared.status.ArchiveStatus.TheVariants.{BadAddress, OutOfMemory, BadSheet, BadSums}
use Rattle.ots_archive_text.specs.declared.status.ArchiveStatus.TheVariants.{TooManyRequests, Twice}

abbrev pub number : ArchiveStatus → ℕ
number Done = 0
number Pending = 1
number Usage = 2
number (BadProof fault) = 3
number NoFile = 4
number Exists = 5
number ReadFault = 6
number BadName = 6
number WriteFault = 7
number TooBig = 8
number (TooFew got wanted) = 10
number NonceFault = 11
number FileTooLong = 12
number (BadAddress place) = 14
number OutOfMemory = 20
number (BadSheet line) = 40
number (BadSums line) = 41
number TooManyRequests = 42
number Twice = 44
