use Rattle.std.proofs.Common.{inl, inr, refl}
use Rattle.ots_calendar_endings.proofs.printing.print_last.Goals as goal

pub returns-in-Ok-clause-printed : goal.returns-in-Ok-clause-printed
returns-in-Ok-clause-printed g c = (c.in-Ok.ensures.printed.0, c.in-Ok.ensures.printed.1, inl (c.in-Ok.ensures.printed.2, refl))

pub returns-in-Err-clause-printed : goal.returns-in-Err-clause-printed
returns-in-Err-clause-printed g c =
    (c.in-Err.ensures.printed.0, c.in-Err.ensures.printed.1, inr (c.in-Err.ensures.printed.2.0, c.in-Err.ensures.printed.2.1, refl))
