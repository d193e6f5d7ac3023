use Rattle.std.proofs.Common.{arith, length}
use Rattle.ots_tree.specs.Wire.{spelled}
use Rattle.ots_http.proofs.WriteLemmas.{whole_length}
use Rattle.ots_http.proofs.replying.size_of.Goals as goal

pub returns : goal.returns
returns c = whole_length (length (spelled c.args.tree.now)) _ c.spelled_length.ensures (omega (arith, c.requires))
