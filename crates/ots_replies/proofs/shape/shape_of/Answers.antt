use Rattle.ots_replies.proofs.Shapes.{no_words, not_shaped, shaped, short}
use Rattle.ots_replies.proofs.shape.shape_of.Goals as goal

pub returns-in_err-words_of-clause-none : goal.returns-in_err-words_of-clause-none
returns-in_err-words_of-clause-none c = rw c.from_residual.ensures (λ a is text. no_words c.args.line.now a c.in_err-words_of.ensures.none is text)

pub returns-clause-none : goal.returns-clause-none
returns-clause-none c = not_shaped c.args.line.now c.in_ok-words_of.field-0 c.shape_of_words.result c.in_ok-words_of.ensures.some c.shape_of_words.ensures.none

pub returns-clause-some : goal.returns-clause-some
returns-clause-some c = shaped c.args.line.now c.in_ok-words_of.field-0 c.shape_of_words.result c.in_ok-words_of.ensures.some c.shape_of_words.ensures.some

pub returns-clause-short : goal.returns-clause-short
returns-clause-short c = short c.args.line.now c.in_ok-words_of.field-0 c.shape_of_words.result c.in_ok-words_of.ensures.some c.shape_of_words.ensures.some
