-- The numbers with which a program ends.
use Rattle.std.specs.Prelude.{ℕ}
use Rattle.ots_gateway_words.specs.declared.status.GateStatus.{GateStatus}
use Rattle.ots_gateway_words.specs.declared.status.GateStatus.TheVariants.{Done, Usage, WriteFault, BadAddress}
use Rattle.ots_gateway_words.specs.declared.status.GateStatus.TheVariants.{OutOfMemory, AcceptFault}

abbrev pub number : GateStatus → ℕ
number Done = 0
number Usage = 2
number WriteFault = 7
number (BadAddress place https) = 14
number OutOfMemory = 20
number AcceptFault = 32
