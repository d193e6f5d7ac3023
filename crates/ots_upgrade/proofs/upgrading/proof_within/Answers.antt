use Rattle.std.proofs.Common.{◌∙◌}
use Rattle.ots_upgrade.proofs.WithinLimit.{completes, sound_told}
use Rattle.ots_upgrade.proofs.upgrading.proof_within.Goals as goal

pub with_tree-requires-clause-sound : goal.with_tree-requires-clause-sound
with_tree-requires-clause-sound c = sound_told c.args.proof.now c.args.pairs.now _ c.args.most c.in_ok-tree.tree c.in_ok-tree.ensures

pub returns : goal.returns
returns c =
    completes c.args.proof.now c.args.pairs.now c.deref.result.now _ c.args.most c.in_ok-tree.tree c.with_tree.result c.limits_of_detached.ensures.digest (c.deref.ensures.value ∙ c.in_ok-trees.ensures)
    c.in_ok-tree.ensures c.with_tree.ensures
