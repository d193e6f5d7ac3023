use Rattle.std.proofs.Common.{◌∷◌, [], sym, arith, ℕ, ◌∙◌, ap}
use Rattle.std.proofs.lemmas.Fmt.{decimal_digit}
use Rattle.ots_printer.proofs.Pieces.{puts_as}
use Rattle.ots_printer.proofs.printer.Printer.number.Goals as goal

-- a number of one digit
pub returns-then-number-lt10 : goal.returns-then-number-lt10
returns-then-number-lt10 g c =
    let few = c.if-number-lt10.true in
    puts_as (ap (λ (z : ℕ). (z ∷ [])) (omega (arith, few)) ∙ sym (decimal_digit c.args.number (omega (arith, few)))) c.bytes.ensures
