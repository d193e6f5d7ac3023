use Rattle.std.proofs.Common.{◌∙◌, ◌≤◌, ◌<◌, ◌++◌, [], length, get_or, ap, sym, arith, append-nil}
use Rattle.ots_merkle.specs.BlockTree.{paired, neighbour, climbed}
use Rattle.ots_merkle.proofs.Blocks.{length_paired, branch_of_few, branch_further, branch_leads}
use Rattle.ots_merkle.proofs.block.block_branch.Goals as goal

pub levels-smaller : goal.levels-smaller
levels-smaller c =
    let up = c.in_ok-level-2.ensures ∙ ap paired c.deref-in-levels.ensures.value in
    let half = length_paired c.levels.level.items in
    let more = c.levels.level.ok.0 in
    omega (arith, ap length up, half.0, half.1, more, c.len.ensures, c.levels-test.true)

pub levels-preserved : goal.levels-preserved
levels-preserved c =
    let up = c.in_ok-level-2.ensures ∙ ap paired c.deref-in-levels.ensures.value in
    let half = length_paired c.levels.level.items in
    let more : 1 < length c.levels.level.items = omega (arith, c.levels.level.ok.0, c.len.ensures, c.levels-test.true) in
    let pushed = c.in_ok-push.ensures in
    let other = c.neighbour.ensures ∙ ap (λ l. neighbour l c.levels.place) c.deref.ensures.value in
    record {
      within = omega (arith, ap length up, half.0, c.levels.invariant.within);
      most = omega (arith, ap length up, half.1, c.levels.invariant.most);
      branch =
          branch_further c.levels.branch c.push.new.self c.neighbour.result c.levels.level.items c.in_ok-level-2.level.items c.levels.place _
          c.levels.invariant.branch more pushed other up;
    }

pub returns-clause-branch : goal.returns-clause-branch
returns-clause-branch c =
    let few : length c.levels.level.items ≤ 1 = omega (arith, c.levels.level.ok.0, c.len.ensures, c.levels-test.false) in
    sym (append-nil c.levels.branch) ∙ ap (λ b. c.levels.branch ++ b) (sym (branch_of_few c.levels.level.items c.levels.place few)) ∙ c.levels.invariant.branch

pub returns-clause-leads : goal.returns-clause-leads
returns-clause-leads c =
    let few : length c.levels.level.items ≤ 1 = omega (arith, c.levels.level.ok.0, c.len.ensures, c.levels-test.false) in
    let all = sym (append-nil c.levels.branch) ∙ ap (λ b. c.levels.branch ++ b) (sym (branch_of_few c.levels.level.items c.levels.place few)) ∙ c.levels.invariant.branch in
    ap (λ b. climbed b (get_or c.args.txids.now c.args.i [])) all
    ∙ branch_leads c.args.txids.now c.args.i c.requires.is_id
