use Rattle.std.proofs.Common.{ap, arith, ◌∙◌}
use Rattle.ots_line_reader.specs.Lines.{Lines}
use Rattle.ots_line_reader.proofs.Stepped.{filled, not_filled}
use Rattle.ots_line_reader.proofs.reader.LineReader.fill.Goals as goal

pub returns-in_err-count-clause-fills : goal.returns-in_err-count-clause-fills
returns-in_err-count-clause-fills g c =
    let self = c.self.inside in
    let made = c.make_room-self-inside in
    not_filled self.line.start self.line.end made.result.start made.result.end 0 self.room made.new.room c.read_after.new.room c.args.self.now _ _ (ap (λ (z : Lines). z.line) c.self.view_is)
    (rw c.self.told c.self.invariant.0.within) c.requires.no_line (made.ensures.held ∙ ap (λ (z : Lines). z.held) c.self.view_is) made.ensures.span.order
    c.in_err-count.ensures.prefix c.from_residual.result c.from_residual.ensures.0 c.in_err-count.ensures.bytes

pub returns-clause-fills : goal.returns-clause-fills
returns-clause-fills g c =
    let self = c.self.inside in
    let made = c.make_room-self-inside in
    filled self.line.start self.line.end made.result.start made.result.end c.in_ok-count.count self.room made.new.room c.read_after.new.room c.args.self.now _ _ (ap (λ (z : Lines). z.line) c.self.view_is)
    (rw c.self.told c.self.invariant.0.within) c.requires.no_line (made.ensures.held ∙ ap (λ (z : Lines). z.held) c.self.view_is) made.ensures.span.order
    c.in_ok-count.ensures.prefix c.in_ok-count.ensures.bytes.0 c.in_ok-count.ensures.bytes.1 c.in_ok-count.ensures.bound (omega (arith, made.ensures.room, made.ensures.size, c.read_after.ensures.length))
