use Rattle.std.proofs.Common.{inl, inr, refl}
use Rattle.ots_mirror.proofs.printing.print_end.Goals as goal

pub returns-in-Ok-clause-printed : goal.returns-in-Ok-clause-printed
returns-in-Ok-clause-printed g c = inl (rw c.in-Ok.ensures.printed.1 at c.in-Ok.ensures.printed.2, refl)

pub returns-in-Err-clause-printed : goal.returns-in-Err-clause-printed
returns-in-Err-clause-printed g c = let e = rw c.in-Err.ensures.printed.1 at c.in-Err.ensures.printed.2 in inr (e.0, e.1, refl)
