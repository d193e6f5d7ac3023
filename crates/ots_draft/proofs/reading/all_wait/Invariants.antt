use Rattle.std.proofs.Common.{take}
use Rattle.std.specs.List.{AllByRecursion}
use Rattle.ots_draft.specs.inner.Reading.{MayWait}
use Rattle.ots_draft.proofs.reading.all_wait.Given as goal

-- Those before may wait.
abbrev pub invariant-loop-token : goal.invariant-loop-token
invariant-loop-token l = AllByRecursion MayWait (take l.token-index l.tokens)
