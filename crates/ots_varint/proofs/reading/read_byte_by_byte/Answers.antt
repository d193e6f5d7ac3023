use Rattle.std.proofs.Common.{arith, ◌+◌}
use Rattle.ots_varint.specs.declared.reading.VaruintRead.TheVariants.{Value, Short, NonMinimal, TooLarge}
use Rattle.ots_varint.proofs.ReadBack.{value_iff}
use Rattle.ots_varint.proofs.Settled.{reading_nothing, settles_value, settles_non_minimal, settles_too_large, all_open}
use Rattle.ots_varint.proofs.reading.read_byte_by_byte.Goals as goal

pub loop-index-init : goal.loop-index-init
loop-index-init c = record { prefix = c.new-state.ensures; short = reading_nothing c.new-state.result c.new-state.ensures }

pub returns-in-Value-clause-table : goal.returns-in-Value-clause-table
returns-in-Value-clause-table c =
    let l = c.loop-index in settles_value l.state c.args.bytes.now l.index c.in-Value.number l.invariant c.loop-index-test.true c.in-Value.ensures.answer

pub returns-in-Value-clause-value : goal.returns-in-Value-clause-value
returns-in-Value-clause-value c =
    value_iff c.args.bytes.now (Value c.in-Value.number (c.loop-index.index + 1)) (λ k. omega (arith, c.type_inv.bytes k)) (returns-in-Value-clause-table c)

pub returns-in-NonMinimal-clause-table : goal.returns-in-NonMinimal-clause-table
returns-in-NonMinimal-clause-table c =
    let l = c.loop-index in settles_non_minimal l.state c.args.bytes.now l.index l.invariant c.loop-index-test.true c.in-NonMinimal.ensures.answer

pub returns-in-NonMinimal-clause-value : goal.returns-in-NonMinimal-clause-value
returns-in-NonMinimal-clause-value c = value_iff c.args.bytes.now NonMinimal (λ k. omega (arith, c.type_inv.bytes k)) (returns-in-NonMinimal-clause-table c)

pub returns-in-TooLarge-clause-table : goal.returns-in-TooLarge-clause-table
returns-in-TooLarge-clause-table c =
    let l = c.loop-index in settles_too_large l.state c.args.bytes.now l.index l.invariant c.loop-index-test.true c.in-TooLarge.ensures.answer

pub returns-in-TooLarge-clause-value : goal.returns-in-TooLarge-clause-value
returns-in-TooLarge-clause-value c = value_iff c.args.bytes.now TooLarge (λ k. omega (arith, c.type_inv.bytes k)) (returns-in-TooLarge-clause-table c)

pub returns-clause-table : goal.returns-clause-table
returns-clause-table c = let l = c.loop-index in all_open l.state c.args.bytes.now l.index l.invariant c.loop-index-test.false

pub returns-clause-value : goal.returns-clause-value
returns-clause-value c = value_iff c.args.bytes.now Short (λ k. omega (arith, c.type_inv.bytes k)) (returns-clause-table c)
