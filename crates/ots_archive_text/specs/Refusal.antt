-- The line of a refusal.
use Rattle.std.specs.Prelude.{ℕ, List, [], ◌++◌, codes, decimal}
use Rattle.ots_archive_text.specs.Lines.{named_line}
use Rattle.ots_archive_text.specs.Names.{shown}
use Rattle.ots_archive_text.specs.declared.status.ArchiveStatus.{ArchiveStatus}
use Rattle.ots_archive_text.specs.declared.status.ArchiveStatus.TheVariants.{Done, Pending, Usage, BadProof, NoFile}
use Rattle.ots_archive_text.specs.declared.status.ArchiveStatus.TheVariants.{Exists, ReadFault, BadName, WriteFault}
use Rattle.ots_archive_text.specs.declared.status.ArchiveStatus.TheVariants.{TooBig, TooFew, NonceFault, FileTooLong}
use Rattle.ots_archive_text.specs.declared.status.ArchiveStatus.TheVariants.{BadAddress, OutOfMemory, BadSheet, BadSums}
use Rattle.ots_archive_text.specs.declared.status.ArchiveStatus.TheVariants.{TooManyRequests, Twice}
use Rattle.ots_outputs.specs.Lines.{line}
use Rattle.ots_reader.specs.Printed.{printed}

-- over a name of bytes; a status that has no line prints nothing
abbrev pub refusal_text : List ℕ → ArchiveStatus → List ℕ
refusal_text name Done = []
refusal_text name Pending = []
refusal_text name Usage = line (codes "usage: otsarchive draft, ask, take")
refusal_text name (BadProof f) = line (codes "bad proof " ++ shown name ++ codes " at " ++ decimal f.place ++ codes ": "
    ++ printed f.reason)
refusal_text name NoFile = named_line (codes "no file ") name
refusal_text name Exists = named_line (codes "exists ") name
refusal_text name ReadFault = named_line (codes "read fault ") name
refusal_text name BadName = named_line (codes "bad name ") name
refusal_text name WriteFault = named_line (codes "write fault ") name
refusal_text name TooBig = named_line (codes "too big ") name
refusal_text name (TooFew got wanted) =
    named_line (codes "too few " ++ decimal got ++ codes " of " ++ decimal wanted ++ codes " ") name
refusal_text name NonceFault = line (codes "nonce fault")
refusal_text name FileTooLong = named_line (codes "file too long ") name
refusal_text name (BadAddress place) = line (codes "bad address at " ++ decimal place)
refusal_text name OutOfMemory = []
refusal_text name (BadSheet number) = line (codes "bad sheet at " ++ decimal number)
refusal_text name (BadSums number) = line (codes "bad sums line " ++ decimal number)
refusal_text name TooManyRequests = line (codes "too many requests")
refusal_text name Twice = named_line (codes "twice ") name
