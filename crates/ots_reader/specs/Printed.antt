-- The words that a reason prints.
use Rattle.std.specs.Prelude.{ℕ, List, codes}
use Rattle.ots_reader.specs.declared.fault.Reason.{Reason}
use Rattle.ots_reader.specs.declared.fault.Reason.TheVariants.{Truncated, UnknownOp, Keccak, ForkFork, NonMinimal}
use Rattle.ots_reader.specs.declared.fault.Reason.TheVariants.{VaruintTooLarge, ArgEmpty, ArgTooLong, PayloadTooLong}
use Rattle.ots_reader.specs.declared.fault.Reason.TheVariants.{BadUri, PayloadRest, PayloadShort, PayloadVaruint}
use Rattle.ots_reader.specs.declared.fault.Reason.TheVariants.{ResultTooLong, TooDeep, BadMagic, BadVersion, BadHashOp}
use Rattle.ots_reader.specs.declared.fault.Reason.TheVariants.{TrailingBytes}

abbrev pub printed : Reason → List ℕ
printed Truncated = codes "truncated"
printed UnknownOp = codes "unknown operation"
printed Keccak = codes "keccak"
printed ForkFork = codes "fork after fork"
printed NonMinimal = codes "non-minimal number"
printed VaruintTooLarge = codes "number too large"
printed ArgEmpty = codes "empty argument"
printed ArgTooLong = codes "argument too long"
printed PayloadTooLong = codes "payload too long"
printed BadUri = codes "bad uri"
printed PayloadRest = codes "payload rest"
printed PayloadShort = codes "payload short"
printed PayloadVaruint = codes "payload number"
printed ResultTooLong = codes "result too long"
printed TooDeep = codes "too deep"
printed BadMagic = codes "bad magic"
printed BadVersion = codes "bad version"
printed BadHashOp = codes "bad hash operation"
printed TrailingBytes = codes "trailing bytes"
