use Rattle.ots_canon.proofs.SoundResults.{sound_canon}
use Rattle.ots_sample.proofs.proof.canonical.Goals as goal

pub invariant_of-result : goal.invariant_of-result
invariant_of-result c = record {
  digest_of_hash = c.limits_of_detached.ensures.digest;
  tree_sound = ∣ sound_canon _ 0 _ _ c.limits_of_detached.ensures.sound c.in_ok-tree.ensures ∣₁;
}
