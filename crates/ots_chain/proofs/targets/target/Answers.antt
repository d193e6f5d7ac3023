use Rattle.std.proofs.Common.{◌≡◌, ◌-◌, ◌<◌, ◌*◌, ◌^◌, ◌∙◌, length, take, drop, ap, sym, subst, arith}
use Rattle.std.specs.Int.{w32, to_be_bytes}
use Rattle.ots_chain.proofs.Numbers.{too_long, fits, some_digits, be_placed, be_used, used_length, placed_length}
use Rattle.ots_chain.specs.Target.{be_number, HasTarget}
use Rattle.ots_chain.proofs.targets.target.Goals as goal

pub returns-then-zeros-used-gt32 : goal.returns-then-zeros-used-gt32
returns-then-zeros-used-gt32 c = λ has.
    too_long c.scaled-digits.result.0 c.scaled-digits.result.1 c.bytes_used-used.result (omega (arith, c.if-zeros-used-gt32.true))
    c.bytes_used-used.ensures.least (subst (λ n. n < 256 ^ 32) c.scaled-digits.ensures.value has.fits)

pub returns : goal.returns
returns c =
    let d = c.scaled-digits.result.0 in
    let z = c.scaled-digits.result.1 in
    let u = c.bytes_used-used.result in
    let value = c.scaled-digits.ensures.value in
    let has : HasTarget c.args.bits = record {
      unsigned = omega (arith, c.if-bits-eq1.false);
      some = λ none. some_digits d z (omega (arith, c.if-digits-eq0.false)) (sym value ∙ none);
      fits = subst (λ n. n < 256 ^ 32) (sym value) (fits d z u c.if-zeros-used-gt32.false c.bytes_used-used.ensures.below);
    } in
    let bytes = take (4 - (4 - u)) (drop (4 - u) c.to_be_bytes.result) in
    let same : bytes ≡ take (4 - (4 - u)) (drop (4 - u) (to_be_bytes w32 d)) = ap (λ l. take (4 - (4 - u)) (drop (4 - u) l)) c.to_be_bytes.ensures in
    let long = ap length same ∙ used_length u d c.bytes_used-used.ensures.range in
    let worth = ap be_number same ∙ be_used u d c.bytes_used-used.ensures.range c.bytes_used-used.ensures.below in
    let number = ap be_number c.number_of.ensures ∙ be_placed (32 - z - length bytes) z bytes in (
      has,
      ap length c.number_of.ensures ∙ placed_length (32 - z - length bytes) z bytes (omega (arith, long, c.if-zeros-used-gt32.false)),
      number ∙ ap (λ n. n * 256 ^ z) worth ∙ sym value,
    )
