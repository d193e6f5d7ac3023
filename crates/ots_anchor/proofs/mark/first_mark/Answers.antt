use Rattle.std.proofs.Common.{◌+◌, [], sym, subst, arith, List, ℕ, Option}
use Rattle.std.proofs.lemmas.List.{get_or_read}
use Rattle.memchr.specs.Find.{FindsNeedle, OccursAt}
use Rattle.ots_anchor.specs.declared.mark.Mark.{Mark}
use Rattle.ots_anchor.specs.Mark.{IsMarkAmong}
use Rattle.ots_anchor.proofs.Marks.{better_is, mark_is}
use Rattle.ots_anchor.proofs.mark.first_mark.Goals as goal

pub find_if-place-requires : goal.find_if-place-requires
find_if-place-requires c = λ no p occurs.
    let w = c.loop-which in
    let root = get_or_read c.args.finders.now w.which c.index-finders-which.result c.loop-which-test.true c.index-finders-which.is [] in
    c.requires.nowhere w.which c.loop-which-test.true no p (subst (λ (r : List ℕ). OccursAt c.args.form.now r p) root occurs)

pub loop-which-preserved : goal.loop-which-preserved
loop-which-preserved c =
    let w = c.loop-which in
    let root = get_or_read c.args.finders.now w.which c.index-finders-which.result c.loop-which-test.true c.index-finders-which.is [] in
    subst (λ (b : Option Mark). IsMarkAmong (w.which + 1) c.args.finders.now c.args.form.now b) (sym c.better-best.ensures)
    (better_is w.which c.args.finders.now c.args.form.now w.best c.find_if-place.result w.invariant
    (subst (λ (r : List ℕ). FindsNeedle c.args.form.now r 0 c.find_if-place.result) root c.find_if-place.ensures))

pub returns : goal.returns
returns c = mark_is c.loop-which.which c.args.finders.now c.args.form.now c.loop-which.best (omega arith) c.loop-which.invariant
