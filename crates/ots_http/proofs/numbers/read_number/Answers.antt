use Rattle.std.proofs.Common.{sym, ◌∙◌, arith}
use Rattle.ots_http.proofs.NumberLemmas.{digits_more, number_more}
use Rattle.ots_http.proofs.numbers.read_number.Goals as goal

pub loop-byte-preserved : goal.loop-byte-preserved
loop-byte-preserved c = record {
  digits = digits_more c.args.digits.now c.loop-byte.byte-index (omega arith) (sym c.is_ascii_digit.ensures.value ∙ c.if-not-is_ascii_digit.false) c.loop-byte.invariant.digits;
  number = c.with_digit-number.ensures ∙ number_more c.args.digits.now c.loop-byte.byte-index c.args.most c.loop-byte.number (omega arith) c.loop-byte.invariant.number;
}
