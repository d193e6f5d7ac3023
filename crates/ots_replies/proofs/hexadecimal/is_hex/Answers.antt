use Rattle.ots_replies.proofs.Digits.{are_hex, odd_is}
use Rattle.ots_replies.proofs.hexadecimal.is_hex.Goals as goal

pub returns : goal.returns
returns c = are_hex c.args.digits.now c.are_digits.result c.if-digits-ne0.false c.are_digits.ensures

pub returns-then-digits-ne0 : goal.returns-then-digits-ne0
returns-then-digits-ne0 c = odd_is c.args.digits.now c.if-digits-ne0.true
