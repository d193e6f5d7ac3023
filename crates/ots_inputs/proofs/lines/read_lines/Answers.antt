use Rattle.std.proofs.Common.{◌≡◌, ◌+◌, ◌-◌, ℕ, length, take, drop, subst, sym, arith, rules, length-take, length-drop}
use Rattle.ots_inputs.specs.LinesRead.{EndsLines}
use Rattle.ots_inputs.proofs.LinesCame.{came_more, came_none, ended, not_read, piece_after, stops_by}
use Rattle.ots_inputs.proofs.lines.read_lines.Goals as goal

pub loop-items-init : goal.loop-items-init
loop-items-init g c = record {
  came = came_none (g.S.Source.left c.args.source.now) c.new-items.result.items c.new-items.ensures.items (let some = g.met.L.Line.form.some in omega (arith, some));
  short = let some = g.met.L.Line.form.some in omega (arith, some);
  later = search rules;
  same = search rules;
}

pub returns-in_err-count-clause-lines : goal.returns-in_err-count-clause-lines
returns-in_err-count-clause-lines g c = not_read g.L.Line.is_item g.L.Line.MAX_LINES _ c.from_residual.result c.from_residual.ensures.1

pub returns-then-count-eq0-clause-lines : goal.returns-then-count-eq0-clause-lines
returns-then-count-eq0-clause-lines g c =
    let old = c.loop-items.room in
    let new = c.read_after.new.room in
    let held = c.loop-items.held in
    let count = c.in_ok-count.count in
    let form = g.met.L.Line.form in
    let fits = form.fits in
    let short = c.loop-items.invariant.short in
    let long : length (take held old) ≡ held = omega (arith, length-take held old, fits, short) in
    let same : take (held + count) new ≡ take held old = subst (λ (z : ℕ). take z new ≡ take held old) (omega arith) c.in_ok-count.ensures.prefix in
    ended form _ _ _ c.loop-items.items.items (take held old) c.loop-items.invariant.came (take count (drop held new)) (take (held + count) new) c.in_ok-count.ensures.bytes.0
    (piece_after old new held count c.in_ok-count.ensures.prefix) c.all_lines.result same (c.in_ok-count.ensures.bytes.1 c.if-count-eq0.true (omega (arith, length-drop held new, fits, short)))
    (subst (λ (z : ℕ). EndsLines c.loop-items.items.items z c.all_lines.result) (sym long) c.all_lines.ensures)

pub returns-in_err-used-clause-lines : goal.returns-in_err-used-clause-lines
returns-in_err-used-clause-lines g c =
    let old = c.loop-items.room in
    let new = c.read_after.new.room in
    let held = c.loop-items.held in
    let count = c.in_ok-count.count in
    stops_by g.met.L.Line.form _ _ _ c.loop-items.items.items (take held old) c.loop-items.invariant.came (take count (drop held new)) (take (held + count) new) c.in_ok-count.ensures.bytes.0
    (piece_after old new held count c.in_ok-count.ensures.prefix) c.from_residual-in_err-used.result _ c.from_residual-in_err-used.ensures.1 c.in_err-used.ensures.err

pub loop-items-preserved : goal.loop-items-preserved
loop-items-preserved g c =
    let old = c.loop-items.room in
    let new = c.read_after.new.room in
    let held = c.loop-items.held in
    let count = c.in_ok-count.count in
    let used = c.in_ok-used.used in
    let bytes = take (held + count) new in
    let taken = c.in_ok-used.ensures.ok in
    let short = taken.open_rest.short in
    let long = c.in_ok-count.ensures.bound in
    record {
      came = came_more g.met.L.Line.form _ _ _ c.loop-items.items.items (take held old) c.loop-items.invariant.came (take count (drop held new)) bytes c.in_ok-count.ensures.bytes.0
          (piece_after old new held count c.in_ok-count.ensures.prefix) c.take_lines.new.items.items used (take (held + count - used) c.keep_rest.new.room) taken c.keep_rest.ensures.kept;
      short = omega (arith, short, length-drop used bytes, length-take (held + count) new, long);
      later = search rules;
      same = search rules;
    }
