use Rattle.std.proofs.Common.{false, Some, arith, refl, ◌∙◌}
use Rattle.ots_ops.specs.OpRef.{op_of}
use Rattle.ots_verifier.proofs.InRows.{rows_of_others, led, led_open, held}
use Rattle.ots_verifier.proofs.messages.Messages.lead.Goals as goal

pub part-requires-clause-within : goal.part-requires-clause-within
part-requires-clause-within c =
    let s = c.self.inside in
    let room = rw (← c.self.view_is) at c.requires.room in
    omega (arith, room, rows_of_others s.rows.items s.lengths.others, c.others-row.ensures, c.self.invariant.0.count)

pub put_result-length-requires-clause-within : goal.put_result-length-requires-clause-within
put_result-length-requires-clause-within c =
    let s = c.self.inside in
    let room = rw (← c.self.view_is) at c.requires.room in
    omega (arith, room, rows_of_others s.rows.items s.lengths.others, c.others-row.ensures, c.self.invariant.0.count, c.part.ensures.put.count)

pub invariant_of-self : goal.invariant_of-self
invariant_of-self c =
    let s = c.self.inside in
    let (h, rows) = c.self.invariant in
    let m = c.put_result-length.result in
    let room = rw (← c.self.view_is) at c.requires.room in
    let to = led_open s.lengths c.lead.new.self m (op_of c.args.op) (c.lead.ensures.led (λ p n. Some m) (op_of c.args.op) refl) in
    let length = c.lead.ensures.room ∙ h.kept in (
      held c.put_result-length.new.rows.items c.lead.new.self m s.lengths.others false to (omega (arith, c.put_result-length.ensures.put.count, c.part.ensures.put.count, h.count))
          c.put_result-length.ensures.fits h.others (omega (arith, room, rows_of_others s.rows.items s.lengths.others)) length,
      c.put_result-length.ensures.room ∙ c.part.ensures.room ∙ rows,
    )

pub returns-clause-leads : goal.returns-clause-leads
returns-clause-leads c =
    let s = c.self.inside in
    let o = op_of c.args.op in
    let m = c.put_result-length.result in
    rw (← c.self.view_is) (led s.rows.items c.part.new.rows.items c.put_result-length.new.rows.items o s.lengths c.lead.new.self c.is_forked.result c.last.result m c.others-row.result
    c.others-row.ensures c.is_forked.ensures c.last.ensures (led_open s.lengths c.lead.new.self m o (c.lead.ensures.led (λ p n. Some m) o refl))
    c.part.ensures.put c.put_result-length.ensures.put c.put_result-length.ensures.value)
