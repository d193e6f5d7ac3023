use Rattle.std.proofs.Common.{ap, arith, sym, lit<}
use Rattle.std.proofs.lemmas.Fmt.{decimal_digit}
use Rattle.ots_request_set.proofs.Lengths.{digits_long, no_digits}
use Rattle.ots_request_set.proofs.set.digits.Goals as goal

pub returns-in-Some : goal.returns-in-Some
returns-in-Some c = sym (digits_long c.in-Some.power c.args.number (omega (arith, c.ranges.number.fits)) c.in-Some.ensures.power_le c.in-Some.ensures.next_power_gt)

pub returns-in-None : goal.returns-in-None
returns-in-None c = no_digits c.args.number c.in-None.ensures.none
