use Rattle.std.proofs.Common.{inr, refl}
use Rattle.ots_http.proofs.HeadLemmas.{no_end_left}
use Rattle.ots_http.proofs.line_ends.may_end.Goals as goal

pub returns-clause-none : goal.returns-clause-none
returns-clause-none c is = inr (no_end_left c.args.came.now c.args.before _ refl (c.ends_line.ensures is))
