use Rattle.ots_replies.proofs.Blanks.{cuts, not_cut}
use Rattle.ots_replies.proofs.words.cut_word.Goals as goal

pub returns-in_err-end-clause-none : goal.returns-in_err-end-clause-none
returns-in_err-end-clause-none c = rw c.from_residual.ensures (λ word rest cut. not_cut c.args.text.now word rest c.in_err-end.ensures cut)

pub returns-clause-some : goal.returns-clause-some
returns-clause-some c = cuts c.args.text.now c.in_ok-end.end c.in_ok-end.ensures.0 c.in_ok-end.ensures.1
