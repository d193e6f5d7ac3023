use Rattle.ots_anchor.specs.Look.{IsPast}
use Rattle.ots_anchor.proofs.search.find_by.Given as goal

abbrev pub invariant-loop-transaction : goal.invariant-loop-transaction
invariant-loop-transaction l = IsPast l.block l.finders l.transaction l.long
