use Rattle.std.proofs.lemmas.List.{take_all}
use Rattle.ots_canon.proofs.merging.steps_within.Goals as goal

pub returns-clause-chain : goal.returns-clause-chain
returns-clause-chain c = rw (take_all c.loop-place.place-index c.args.run.now c.loop-place-test.false) at c.loop-place.invariant.alike
