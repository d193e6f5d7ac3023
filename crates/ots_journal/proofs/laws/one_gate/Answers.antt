use Rattle.ots_journal.proofs.Unique.{gate_once}
use Rattle.ots_journal.proofs.laws.one_gate.Goals as goal

pub returns : goal.returns
returns c = gate_once
