use Rattle.ots_replies.proofs.Blanks.{no_fourth, no_second, no_third}
use Rattle.ots_replies.proofs.words.words_of.Goals as goal

pub returns-in_err-url-clause-none : goal.returns-in_err-url-clause-none
returns-in_err-url-clause-none c = rw c.from_residual-in_err-url.ensures (λ kind url message code body w.
    no_second c.args.line.now kind url message code body w c.in_ok-kind.kind.now c.in_ok-kind.rest.now c.in_ok-kind.ensures.some c.in_err-url.ensures.none)

pub returns-in_err-message-clause-none : goal.returns-in_err-message-clause-none
returns-in_err-message-clause-none c = rw c.from_residual-in_err-message.ensures (λ kind url message code body w.
    no_third c.args.line.now kind url message code body w c.in_ok-kind.kind.now c.in_ok-kind.rest.now c.in_ok-url.url.now c.in_ok-url.rest.now
    c.in_ok-kind.ensures.some c.in_ok-url.ensures.some c.in_err-message.ensures.none)

pub returns-in_err-code-clause-none : goal.returns-in_err-code-clause-none
returns-in_err-code-clause-none c = rw c.from_residual-in_err-code.ensures (λ kind url message code body w.
    no_fourth c.args.line.now kind url message code body w c.in_ok-kind.kind.now c.in_ok-kind.rest.now c.in_ok-url.url.now c.in_ok-url.rest.now
    c.in_ok-message.message.now c.in_ok-message.rest.now c.in_ok-kind.ensures.some c.in_ok-url.ensures.some c.in_ok-message.ensures.some c.in_err-code.ensures.none)
