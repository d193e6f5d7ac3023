use Rattle.ots_anchor.specs.Mark.{IsMarkAmong}
use Rattle.ots_anchor.proofs.mark.first_mark.Given as goal

abbrev pub invariant-loop-which : goal.invariant-loop-which
invariant-loop-which l = IsMarkAmong l.which l.finders l.form l.best
