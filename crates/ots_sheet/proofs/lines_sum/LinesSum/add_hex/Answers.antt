use Rattle.std.proofs.Common.{◌++◌, List, ℕ, ◌∙◌, ap, sym, arith, rules, append-nil}
use Rattle.ots_sheet.proofs.Words.{came_more, encode-nothing}
use Rattle.ots_sheet.proofs.lines_sum.LinesSum.add_hex.Goals as goal

pub loop-done-init : goal.loop-done-init
loop-done-init c = record {
  in_range = omega arith;
  came = sym (append-nil c.args.self.now) ∙ ap (λ (z : List ℕ). c.args.self.now ++ z) encode-nothing;
}

pub loop-done-preserved : goal.loop-done-preserved
loop-done-preserved c = record {
  in_range = search rules;
  came =
      came_more c.args.self.now c.loop-done.self _ c.args.bytes.now c.loop-done.done c.min-end.result (search rules) c.loop-done.invariant.came
      c.add_piece.ensures;
}
