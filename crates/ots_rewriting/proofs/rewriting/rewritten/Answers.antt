use Rattle.ots_canon.proofs.SoundResults.{sound_canon, sound_prune}
use Rattle.ots_rewriting.proofs.Rewritten.{rewritten_sound}
use Rattle.ots_rewriting.proofs.rewriting.rewritten.Goals as goal

pub invariant_of-result : goal.invariant_of-result
invariant_of-result c = record {
  digest_of_hash = c.limits_of_detached.ensures.digest;
  tree_sound = ∣ rewritten_sound c.args.way _ 0 c.args.proof.now.tree c.in_ok-tree.tree sound_canon sound_prune c.limits_of_detached.ensures.sound c.in_ok-tree.ensures ∣₁;
}
