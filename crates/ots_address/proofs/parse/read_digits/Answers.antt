use Rattle.std.proofs.Common.{◌≡◌, ◌∙◌, sym, ap, arith}
use Rattle.std.specs.Prelude.{decimal}
use Rattle.ots_address.proofs.AddressLemmas.{value_of_port, another}
use Rattle.ots_address.proofs.parse.read_digits.Goals as goal
use Rattle.ots_address.proofs.parse.read_digits.Goals.{then-value-eq0-via-then-value-eq0, then-value-eq0-via-else-value-eq0+then-value-gt65535}

pub returns-then-value-eq0-clause-none : goal.returns-then-value-eq0-clause-none
returns-then-value-eq0-clause-none c = λ port is least most.
    let same : c.value_up_to-value.result ≡ port = value_of_port c.args.digits.now port _ is most c.value_up_to-value.ensures in
    elim c.then-value-eq0.branch [
      | then-value-eq0-via-then-value-eq0 w ↦ let h = w.if-value-eq0.true in omega arith
      | then-value-eq0-via-else-value-eq0+then-value-gt65535 w ↦ let h = w.if-value-gt65535.true in omega arith
    ]

pub returns-then-ne-clause-none : goal.returns-then-ne-clause-none
returns-then-ne-clause-none c = λ port is least most.
    let same : c.value_up_to-value.result ≡ port = value_of_port c.args.digits.now port _ is most c.value_up_to-value.ensures in
    another c.as_bytes.result.now c.args.digits.now c.ne.result c.ne.ensures c.if-ne.true (c.as_bytes.ensures.value ∙ c.format.ensures.text ∙ ap decimal same ∙ sym is)
