-- The numbers with which a program ends, and the status that comes with a line.
use Rattle.std.specs.Prelude.{ℕ, Bool, true, false}
use Rattle.ots_verdicts.specs.declared.verdicts.Verdict.{Verdict}
use Rattle.ots_verdicts.specs.declared.verdicts.Verdict.TheVariants.{Yes, NoDigest, NoPath}
use Rattle.ots_client_text.specs.declared.status.Status.{Status}
use Rattle.ots_client_text.specs.declared.status.Status.TheVariants.{Done, No, Usage, BadProof, NoFile, Exists}
use Rattle.ots_client_text.specs.declared.status.Status.TheVariants.{ReadFault}
use Rattle.ots_client_text.specs.declared.status.Status.TheVariants.{WriteFault, TooBig, BadHeaders, TooFew, NonceFault}
use Rattle.ots_client_text.specs.declared.status.Status.TheVariants.{FileTooLong, Differs, BadAddress, Broken, BadPins}
use Rattle.ots_client_text.specs.declared.status.Status.TheVariants.{PinFails, OutOfMemory}

abbrev pub number : Status → ℕ
number Done = 0
number No = 1
number Usage = 2
number (BadProof fault) = 3
number NoFile = 4
number Exists = 5
number ReadFault = 6
number WriteFault = 7
number TooBig = 8
number (BadHeaders length) = 9
number (TooFew got wanted) = 10
number NonceFault = 11
number FileTooLong = 12
number (Differs first_hash first_digest second_hash second_digest) = 13
number (BadAddress place https) = 14
number (Broken height fault) = 16
number (BadPins line) = 17
number (PinFails height) = 18
number OutOfMemory = 20

abbrev pub verdict_status : Verdict → Status
verdict_status (Yes c height time) = Done
verdict_status NoDigest = No
verdict_status NoPath = No

-- of an upgraded proof, by whether some path of it ends in Bitcoin
abbrev pub complete_status : Bool → Status
complete_status true = Done
complete_status false = No
