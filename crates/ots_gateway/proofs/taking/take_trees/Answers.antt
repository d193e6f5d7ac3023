use Rattle.std.proofs.Common.{[], ◌<◌, length, set, sym, ap, ◌∙◌, arith}
use Rattle.ots_asking.specs.declared.outcome.Outcome.TheVariants.{TooLong, Tree}
use Rattle.ots_gateway.proofs.Taken.{count_more, count_none, length_made, step_none, step_over, step_taken, whole_more}
use Rattle.ots_gateway.proofs.taking.take_trees.Goals as goal
use Rattle.ots_gateway.proofs.taking.take_trees.Goals.{in-Tree+in-Some, in-Tree+in-None+in-Tree-1, in-Tree+in-None+in-Unreachable-1, in_default}

pub loop-outcome-preserved : goal.loop-outcome-preserved
loop-outcome-preserved c =
    let i = c.loop-outcome.invariant in
    let less : c.loop-outcome.outcome-index < length c.loop-outcome.outcomes = let test = c.loop-outcome-test.true in let long = c.loop-outcome.auto.outcomes in omega (arith, test, long) in
    let x = c.outcome-item.result in
    let x-is = c.outcome-item.is in
    elim c.match-outcome.branch [
      | in-Tree+in-Some w ↦ record {
        whole = whole_more _ c.loop-outcome.outcomes _ c.loop-outcome.outcome-index x (Tree w.in-Tree.tree) _ c.match-outcome.used less x-is w.outcomes-is i.whole (step_taken x _ c.match-outcome.used _ w.in-Tree.tree w.in-Some.size (x-is ∙ w.in-Tree.is) w.in-Some.ensures.fits.0 w.in-Some.ensures.fits.1 w.used-is);
        count = count_more [] c.loop-outcome.outcomes _ c.loop-outcome.outcome-index x (Tree w.in-Tree.tree) c.loop-outcome.used c.match-outcome.used less x-is w.outcomes-is _ c.match-outcome.taken i.count (w.taken-is);
        few = let is = w.taken-is in let before = i.few in omega (arith, is, before);
        within = let fits = w.in-Some.ensures.fits.1 in let is = w.used-is in omega (arith, fits, is);
        within_list = let long = length_made [] c.loop-outcome.outcomes _ c.loop-outcome.outcome-index x (Tree w.in-Tree.tree) c.loop-outcome.used c.match-outcome.used less x-is w.outcomes-is in omega (arith, long, less);
      }
      | in-Tree+in-None+in-Tree-1 w ↦ record {
        whole = whole_more _ c.loop-outcome.outcomes _ c.loop-outcome.outcome-index x TooLong _ c.match-outcome.used less x-is w.outcomes-is i.whole (step_over x _ c.match-outcome.used _ w.in-Tree.tree (x-is ∙ w.in-Tree.is) w.in-None.ensures.over w.used-is);
        count = count_more [] c.loop-outcome.outcomes _ c.loop-outcome.outcome-index x TooLong c.loop-outcome.used c.match-outcome.used less x-is w.outcomes-is _ c.match-outcome.taken i.count (let is = w.taken-is in omega (arith, is));
        few = let is = w.taken-is in let before = i.few in omega (arith, is, before);
        within = let is = w.used-is in let before = i.within in omega (arith, is, before);
        within_list = let long = length_made [] c.loop-outcome.outcomes _ c.loop-outcome.outcome-index x TooLong c.loop-outcome.used c.match-outcome.used less x-is w.outcomes-is in omega (arith, long, less);
      }
      | in-Tree+in-None+in-Unreachable-1 w ↦ record {
        whole = whole_more _ c.loop-outcome.outcomes _ c.loop-outcome.outcome-index x TooLong _ c.match-outcome.used less x-is w.outcomes-is i.whole (step_over x _ c.match-outcome.used _ w.in-Tree.tree (x-is ∙ w.in-Tree.is) w.in-None.ensures.over w.used-is);
        count = count_more [] c.loop-outcome.outcomes _ c.loop-outcome.outcome-index x TooLong c.loop-outcome.used c.match-outcome.used less x-is w.outcomes-is _ c.match-outcome.taken i.count (let is = w.taken-is in omega (arith, is));
        few = let is = w.taken-is in let before = i.few in omega (arith, is, before);
        within = let is = w.used-is in let before = i.within in omega (arith, is, before);
        within_list = let long = length_made [] c.loop-outcome.outcomes _ c.loop-outcome.outcome-index x TooLong c.loop-outcome.used c.match-outcome.used less x-is w.outcomes-is in omega (arith, long, less);
      }
      | in_default w ↦ record {
        whole = whole_more _ c.loop-outcome.outcomes _ c.loop-outcome.outcome-index x x _ c.match-outcome.used less x-is (w.outcomes-is ∙ ap (set c.loop-outcome.outcomes c.loop-outcome.outcome-index) (sym x-is)) i.whole (step_none x _ c.match-outcome.used _ (λ tree is. w.in_default.not-Tree tree (sym x-is ∙ is)) w.used-is);
        count = count_more [] c.loop-outcome.outcomes _ c.loop-outcome.outcome-index x x c.loop-outcome.used c.match-outcome.used less x-is (w.outcomes-is ∙ ap (set c.loop-outcome.outcomes c.loop-outcome.outcome-index) (sym x-is)) _ c.match-outcome.taken i.count (count_none x _ c.match-outcome.taken (λ tree is. w.in_default.not-Tree tree (sym x-is ∙ is)) w.taken-is);
        few = let is = w.taken-is in let before = i.few in omega (arith, is, before);
        within = let is = w.used-is in let before = i.within in omega (arith, is, before);
        within_list = let long = length_made [] c.loop-outcome.outcomes _ c.loop-outcome.outcome-index x x c.loop-outcome.used c.match-outcome.used less x-is (w.outcomes-is ∙ ap (set c.loop-outcome.outcomes c.loop-outcome.outcome-index) (sym x-is)) in omega (arith, long, less);
      }
    ]
