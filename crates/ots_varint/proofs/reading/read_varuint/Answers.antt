use Rattle.std.proofs.Common.{rules, ◌≡◌, ◌∷◌, arith}
use Rattle.ots_varint.specs.declared.reading.VaruintRead.TheVariants.{Value}
use Rattle.ots_varint.proofs.ReadBack.{value_iff}
use Rattle.ots_varint.proofs.Settled.{at_once}
use Rattle.ots_varint.proofs.reading.read_varuint.Goals as goal

pub returns-in-Some-clause-table : goal.returns-in-Some-clause-table
returns-in-Some-clause-table c =
    let split : c.args.bytes.now ≡ c.in-Some.byte.now ∷ c.in-Some.field-0-1.now = search rules in
    let first = at_once c.in-Some.byte.now c.in-Some.field-0-1.now c.if-byte-lt128.true in
    search rules

pub returns-in-Some-clause-value : goal.returns-in-Some-clause-value
returns-in-Some-clause-value c = value_iff c.args.bytes.now (Value c.from.result 1) (λ k. omega (arith, c.type_inv.bytes k)) (returns-in-Some-clause-table c)
