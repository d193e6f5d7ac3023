use Rattle.ots_sample.proofs.Items.{are_pre, are_sound}
use Rattle.ots_sample.proofs.proof.made_proof.Goals as goal

pub from_tokens-requires : goal.from_tokens-requires
from_tokens-requires c = are_pre c.args.paths _ c.requires.some c.in_ok-tokens_of.ensures

pub invariant_of-result : goal.invariant_of-result
invariant_of-result c = record {
  digest_of_hash = c.digest_of.ensures.length;
  tree_sound = ∣ are_sound c.args.paths _ _ _ c.requires.some c.digest_of.ensures.length c.in_ok-tokens_of.ensures c.in_ok-tree.ensures ∣₁;
}
