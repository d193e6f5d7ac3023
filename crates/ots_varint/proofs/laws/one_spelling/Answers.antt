use Rattle.ots_varint.proofs.OneNumber.{varuint-low, varuint-high, varuint-nonempty, varuint_at_most_ten, varuint-apart, varbytes-apart}
use Rattle.ots_varint.proofs.laws.one_spelling.Goals as goal

pub returns : goal.returns
returns c = record {
  low = varuint-low;
  high = varuint-high;
  least = varuint-nonempty;
  greatest = varuint_at_most_ten;
  number = varuint-apart;
  bytes = varbytes-apart;
}
