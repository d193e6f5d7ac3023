use Rattle.std.proofs.Common.{◌∙◌, ◌≤◌, ◌<◌, length, ap, sym, arith}
use Rattle.ots_merkle.specs.BlockTree.{paired, block_root}
use Rattle.ots_merkle.proofs.Blocks.{length_paired, only_one, root_of_more}
use Rattle.ots_merkle.proofs.block.block_root.Goals as goal

pub levels-smaller : goal.levels-smaller
levels-smaller c =
    let up = c.in_ok-level-2.ensures ∙ ap paired c.deref.ensures.value in
    let half = length_paired c.levels.level.items in
    let more = c.levels.level.ok.0 in
    omega (arith, ap length up, half.0, half.1, more, c.len.ensures, c.levels-test.true)

pub levels-preserved : goal.levels-preserved
levels-preserved c =
    let up = c.in_ok-level-2.ensures ∙ ap paired c.deref.ensures.value in
    let half = length_paired c.levels.level.items in
    let more : 1 < length c.levels.level.items = omega (arith, c.levels.level.ok.0, c.len.ensures, c.levels-test.true) in
    record {
      least = omega (arith, ap length up, half.0);
      most = omega (arith, ap length up, half.1, c.levels.invariant.most);
      root = ap block_root up ∙ sym (root_of_more c.levels.level.items more) ∙ c.levels.invariant.root;
    }

pub returns : goal.returns
returns c =
    let few : length c.levels.level.items ≤ 1 = omega (arith, c.levels.level.ok.0, c.len.ensures, c.levels-test.false) in
    only_one c.levels.level.items c.index.result.now _ c.levels.invariant.least few c.index.ensures c.levels.invariant.root
