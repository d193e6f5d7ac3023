use Rattle.ots_varint.proofs.Settled.{IsOpen}
use Rattle.ots_varint.proofs.reading.read_byte_by_byte.Given as goal

abbrev pub invariant-loop-index : goal.invariant-loop-index
invariant-loop-index l = IsOpen l.state l.bytes l.index
