-- The line of a refusal.
use Rattle.std.specs.Prelude.{ℕ, List, [], ◌++◌, codes, decimal}
use Rattle.ots_outputs.specs.Lines.{address_words, line}
use Rattle.ots_gateway_words.specs.declared.status.GateStatus.{GateStatus}
use Rattle.ots_gateway_words.specs.declared.status.GateStatus.TheVariants.{Done, Usage, WriteFault, BadAddress}
use Rattle.ots_gateway_words.specs.declared.status.GateStatus.TheVariants.{OutOfMemory, AcceptFault}

-- a status that has no line prints nothing
abbrev pub refusal_text : GateStatus → List ℕ
refusal_text Done = []
refusal_text Usage = line (codes "usage: otsgate --calendars LIST --min M --port P --round K")
refusal_text WriteFault = []
refusal_text (BadAddress place https) = line (address_words https ++ decimal place)
refusal_text OutOfMemory = []
refusal_text AcceptFault = line (codes "accept fault")
