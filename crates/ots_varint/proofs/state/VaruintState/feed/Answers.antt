use Rattle.std.proofs.Common.{◌*◌, arith, refl}
use Rattle.ots_varint.proofs.Fed.{last_fits, more_fits, fed_one, fed_partial, answer_over, answer_padding, answer_last, answer_more}
use Rattle.ots_varint.proofs.Ended.{ends}
use Rattle.ots_varint.proofs.state.VaruintState.feed.Goals as goal

pub returns-then-is_over-clause-answer : goal.returns-then-is_over-clause-answer
returns-then-is_over-clause-answer c =
    let s = c.self.inside in
    rw (← c.self.view_is) (answer_over s.value s.scale s.position c.args.byte c.is_over.result c.self.invariant c.is_over.ensures c.if-is_over.true)

pub returns-then-is_padding-clause-answer : goal.returns-then-is_padding-clause-answer
returns-then-is_padding-clause-answer c =
    let s = c.self.inside in
    rw (← c.self.view_is)
    (answer_padding s.value s.scale s.position c.args.byte c.is_over.result c.is_padding.result c.self.invariant c.is_over.ensures c.if-is_over.false c.is_padding.ensures c.if-is_padding.true)

pub overflow_mul-result : goal.overflow_mul-result
overflow_mul-result c =
    let s = c.self.inside in
    let h = last_fits s.value s.scale s.position c.args.byte c.from.result c.is_over.result c.self.invariant c.from.ensures c.is_over.ensures c.if-is_over.false c.if-byte-lt128.true in
    omega (arith, h.0)

pub overflow_add-result : goal.overflow_add-result
overflow_add-result c =
    let s = c.self.inside in
    let h = last_fits s.value s.scale s.position c.args.byte c.from.result c.is_over.result c.self.invariant c.from.ensures c.is_over.ensures c.if-is_over.false c.if-byte-lt128.true in
    omega (arith, h.1)

pub returns-then-byte-lt128-clause-answer : goal.returns-then-byte-lt128-clause-answer
returns-then-byte-lt128-clause-answer c =
    let s = c.self.inside in
    rw (← c.self.view_is)
    (answer_last s.value s.scale s.position c.args.byte c.from.result c.is_over.result c.is_padding.result c.self.invariant c.is_over.ensures c.if-is_over.false c.is_padding.ensures c.if-is_padding.false c.if-byte-lt128.true c.from.ensures)

pub overflow_mul-self : goal.overflow_mul-self
overflow_mul-self c =
    let s = c.self.inside in
    let h = more_fits s.value s.scale s.position c.args.byte c.from-2.result c.is_over.result c.self.invariant c.from-2.ensures c.is_over.ensures c.if-is_over.false c.if-byte-lt128.false (omega arith) in
    omega (arith, h.1)

pub overflow_add-self : goal.overflow_add-self
overflow_add-self c =
    let s = c.self.inside in
    let h = more_fits s.value s.scale s.position c.args.byte c.from-2.result c.is_over.result c.self.invariant c.from-2.ensures c.is_over.ensures c.if-is_over.false c.if-byte-lt128.false (omega arith) in
    omega (arith, h.2)

pub overflow_mul-self-2 : goal.overflow_mul-self-2
overflow_mul-self-2 c =
    let s = c.self.inside in
    let h = more_fits s.value s.scale s.position c.args.byte c.from-2.result c.is_over.result c.self.invariant c.from-2.ensures c.is_over.ensures c.if-is_over.false c.if-byte-lt128.false (omega arith) in
    omega (arith, h.3)

pub returns-clause-answer : goal.returns-clause-answer
returns-clause-answer c =
    let s = c.self.inside in
    let h = more_fits s.value s.scale s.position c.args.byte c.from-2.result c.is_over.result c.self.invariant c.from-2.ensures c.is_over.ensures c.if-is_over.false c.if-byte-lt128.false (omega arith) in
    rw (← c.self.view_is) (answer_more s.value s.scale s.position c.args.byte c.self.invariant h.0 c.if-byte-lt128.false)

pub returns-clause-fed : goal.returns-clause-fed
returns-clause-fed c =
    let s = c.self.inside in
    rw (← c.self.view_is) (fed_one s.value s.scale s.position c.args.byte c.from-2.result c.self.invariant c.from-2.ensures c.if-byte-lt128.false (omega arith))

pub invariant_of-self : goal.invariant_of-self
invariant_of-self c =
    let s = c.self.inside in
    let h = more_fits s.value s.scale s.position c.args.byte c.from-2.result c.is_over.result c.self.invariant c.from-2.ensures c.is_over.ensures c.if-is_over.false c.if-byte-lt128.false (omega arith) in
    fed_partial s.value s.scale s.position c.from-2.result (s.scale * 128) c.self.invariant h.0 (omega arith) refl

pub returns-then-is_over-clause-value : goal.returns-then-is_over-clause-value
returns-then-is_over-clause-value c =
    let s = c.self.inside in
    ends s.value s.scale s.position c.args.byte c.args.self.now c.self.view_is c.self.invariant (omega arith) (returns-then-is_over-clause-answer c)

pub returns-then-is_padding-clause-value : goal.returns-then-is_padding-clause-value
returns-then-is_padding-clause-value c =
    let s = c.self.inside in
    ends s.value s.scale s.position c.args.byte c.args.self.now c.self.view_is c.self.invariant (omega arith) (returns-then-is_padding-clause-answer c)

pub returns-then-byte-lt128-clause-value : goal.returns-then-byte-lt128-clause-value
returns-then-byte-lt128-clause-value c =
    let s = c.self.inside in
    ends s.value s.scale s.position c.args.byte c.args.self.now c.self.view_is c.self.invariant (omega arith) (returns-then-byte-lt128-clause-answer c)

pub returns-clause-value : goal.returns-clause-value
returns-clause-value c =
    let s = c.self.inside in
    ends s.value s.scale s.position c.args.byte c.args.self.now c.self.view_is c.self.invariant (omega arith) (returns-clause-answer c)
