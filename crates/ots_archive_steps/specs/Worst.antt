-- Which of several statuses a run ends with: this project's rule.
use Rattle.std.specs.Prelude.{ℕ, List, nat_lt, if◌then◌else◌}
use Rattle.std.specs.List.{fold}
use Rattle.ots_archive_text.specs.declared.status.ArchiveStatus.{ArchiveStatus}
use Rattle.ots_archive_text.specs.declared.status.ArchiveStatus.TheVariants.{Done, Pending, Usage, BadProof, NoFile}
use Rattle.ots_archive_text.specs.declared.status.ArchiveStatus.TheVariants.{Exists, ReadFault, BadName, WriteFault}
use Rattle.ots_archive_text.specs.declared.status.ArchiveStatus.TheVariants.{TooBig, TooFew, NonceFault, FileTooLong}
use Rattle.ots_archive_text.specs.declared.status.ArchiveStatus.TheVariants.{BadAddress, OutOfMemory, BadSheet, BadSums}
use Rattle.ots_archive_text.specs.declared.status.ArchiveStatus.TheVariants.{TooManyRequests, Twice}

-- A refusal is worst.
abbrev pub rank : ArchiveStatus → ℕ
rank Done = 0
rank Pending = 1
rank Exists = 2
rank (TooFew got wanted) = 3
rank Usage = 4
rank (BadProof fault) = 4
rank NoFile = 4
rank ReadFault = 4
rank BadName = 4
rank WriteFault = 4
rank TooBig = 4
rank NonceFault = 4
rank FileTooLong = 4
rank (BadAddress place) = 4
rank OutOfMemory = 4
rank (BadSheet line) = 4
rank (BadSums line) = 4
rank TooManyRequests = 4
rank Twice = 4

-- The next one where it is worse.
abbrev pub worse : ArchiveStatus → ArchiveStatus → ArchiveStatus
worse first next = if nat_lt (rank first) (rank next) then next else first

-- The first of the worst of these.
abbrev pub worst : List ArchiveStatus → ArchiveStatus
worst all = fold worse Done all
