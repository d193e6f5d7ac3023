-- Why a source gives nothing: for the code.
use Rattle.ots_archive_text.specs.declared.status.ArchiveStatus.{ArchiveStatus}
use Rattle.ots_archive_text.specs.declared.status.ArchiveStatus.TheVariants.{BadProof, BadSheet, BadSums, FileTooLong, TooBig}
use Rattle.ots_archive_world.specs.declared.reader.ReadingError.{ReadingError}
use Rattle.ots_archive_world.specs.declared.reader.ReadingError.TheVariants.{OutOfMemory, ReadFault, Refused}
use Rattle.ots_detached.specs.declared.hashing.HashError.{HashError}
use Rattle.ots_detached.specs.declared.hashing.HashError.TheVariants as hashing
use Rattle.ots_detached.specs.declared.reading.FileError.{FileError}
use Rattle.ots_detached.specs.declared.reading.FileError.TheVariants as file
use Rattle.ots_replies.specs.declared.error.SheetError.{SheetError}
use Rattle.ots_replies.specs.declared.error.SheetError.TheVariants as sheet
use Rattle.ots_sums.specs.declared.reading.SumsError.{SumsError}
use Rattle.ots_sums.specs.declared.reading.SumsError.TheVariants as sums

abbrev pub refused_proof : FileError → ReadingError ArchiveStatus
refused_proof file.ReadFault = ReadFault
refused_proof file.TooBig = Refused TooBig
refused_proof (file.BadProof fault) = Refused (BadProof fault)
refused_proof file.OutOfMemory = OutOfMemory

abbrev pub refused_target : HashError → ReadingError ArchiveStatus
refused_target hashing.ReadFault = ReadFault
refused_target (hashing.FileTooLong limit) = Refused FileTooLong

abbrev pub refused_sums : SumsError → ReadingError ArchiveStatus
refused_sums sums.ReadFault = ReadFault
refused_sums (sums.BadLine number) = Refused (BadSums number)
refused_sums sums.OutOfMemory = OutOfMemory

abbrev pub refused_replies : SheetError → ReadingError ArchiveStatus
refused_replies sheet.ReadFault = ReadFault
refused_replies (sheet.BadSheet number) = Refused (BadSheet number)
refused_replies sheet.OutOfMemory = OutOfMemory
