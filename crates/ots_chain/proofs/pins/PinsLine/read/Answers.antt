use Rattle.std.proofs.Common.{◌≡◌, ◌+◌, ◌-◌, ◌∙◌, length, take, drop, arith, length-drop}
use Rattle.std.proofs.lemmas.List.{take_all}
use Rattle.ots_chain.proofs.PinText.{halves, no_space}
use Rattle.ots_chain.proofs.pins.PinsLine.read.Goals as goal

pub returns-in_err-space : goal.returns-in_err-space
returns-in_err-space c = rw c.from_residual.ensures (λ pin is. no_space c.args.line.now pin c.in_err-space.ensures is)

pub returns-in_err-height : goal.returns-in_err-height
returns-in_err-height c = rw c.from_residual-in_err-height.ensures (λ pin is.
    let parts = halves c.args.line.now c.in_ok-space.space c.in_ok-space.ensures.0 c.in_ok-space.ensures.1 pin is in
    c.in_err-height.ensures pin.height is.height parts.0)

pub returns-in_err-hash : goal.returns-in_err-hash
returns-in_err-hash c = rw c.from_residual-in_err-hash.ensures (λ pin is.
    let line = c.args.line.now in
    let space = c.in_ok-space.space in
    let parts = halves line space c.in_ok-space.ensures.0 c.in_ok-space.ensures.1 pin is in
    let rest : take (length line - (space + 1)) (drop (space + 1) line) ≡ drop (space + 1) line = take_all (length line - (space + 1)) (drop (space + 1) line) (omega (arith, length-drop (space + 1) line)) in
    c.in_err-hash.ensures pin.hash is.long is.bytes (rest ∙ parts.1))
