use Rattle.std.proofs.Common.{◌-◌, length}
use Rattle.ots_journal.specs.Version1.{ReadTo1}
use Rattle.ots_journal.proofs.version1.read_version1.Given as goal

abbrev pub invariant-loop-gate : goal.invariant-loop-gate
invariant-loop-gate l = ReadTo1 l.bytes l.entries.items l.gate

abbrev pub decreases-loop-gate : goal.decreases-loop-gate
decreases-loop-gate l = length l.bytes - l.gate
