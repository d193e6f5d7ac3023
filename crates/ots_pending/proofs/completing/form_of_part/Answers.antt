use Rattle.std.proofs.Common.{refl}
use Rattle.ots_pending.proofs.Completion.{canonical_part}
use Rattle.ots_pending.proofs.completing.form_of_part.Goals as goal

pub returns-clause-form : goal.returns-clause-form
returns-clause-form c pairs given m form is = canonical_part pairs given m form c.args.part _ is c.in_ok-canon.ensures refl refl
