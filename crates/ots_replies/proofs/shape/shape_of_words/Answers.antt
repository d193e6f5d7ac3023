use Rattle.std.proofs.Common.{refl}
use Rattle.ots_replies.proofs.Shapes.{not_message, words_told}
use Rattle.ots_replies.proofs.shape.shape_of_words.Goals as goal

pub returns-then-not-is_message-clause-none : goal.returns-then-not-is_message-clause-none
returns-then-not-is_message-clause-none c a is words =
    not_message c.in_ok-kind.kind a c.args.words.kind.now c.args.words.message.now c.is_message.result c.if-not-is_message.true c.is_message.ensures
    c.in_ok-kind.ensures.some is words.kind words.message

pub returns-clause-some : goal.returns-clause-some
returns-clause-some c =
    words_told c.args.words _ c.in_ok-_scheme._scheme c.is_message.result refl refl c.in_ok-kind.ensures.some c.in_ok-_scheme.ensures.some c.if-not-is_message.false
    c.is_message.ensures c.in_ok-outcome.ensures.some
