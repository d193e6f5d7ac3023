use Rattle.std.proofs.Common.{arith}
use Rattle.std.proofs.lemmas.List.{take_rest, length-drop}
use Rattle.ots_store.proofs.Formed.{branch_long}
use Rattle.ots_store.proofs.reading.read_branch.Goals as goal

pub read_steps-requires-clause-long : goal.read_steps-requires-clause-long
read_steps-requires-clause-long c = rw take_rest (omega (arith, length-drop 1 c.args.bytes.now, branch_long c.args.bytes.now c.requires))
