use Rattle.std.proofs.Common.{◌∙◌, ◌∷◌, [], refl, ap, List}
use Rattle.ots_tree.specs.Kept.{beside}
use Rattle.ots_tree.specs.PendingWalk.{walked}
use Rattle.ots_tree.specs.declared.token.Token.{Token}
use Rattle.ots_tree.proofs.PendingPaths.{walk_found}
use Rattle.ots_pending.specs.Listed.{pairs_walked}
use Rattle.ots_pending.proofs.Askable.{pairs_askable}
use Rattle.ots_pending.proofs.pairs.pending_pairs.Goals as goal

pub returns-clause-pairs : goal.returns-clause-pairs
returns-clause-pairs c =
    let proof = c.args.proof.now in
    record {
      found = walked 0 (proof.digest ∷ []) (beside proof.tree c.depths.result.now);
      pending = walk_found proof c.depths.result.now _ c.depths.ensures.kept c.limits_of_detached.ensures.sound refl;
      are =
          c.in_ok-listing.ensures.pairs
          ∙ ap (λ (z : List Token). pairs_walked z c.depths.result.now c.in_ok-digest.digest) c.tokens.ensures.tokens
          ∙ ap (pairs_walked proof.tree c.depths.result.now) (c.in_ok-digest.ensures ∙ c.bytes.ensures.bytes);
    }

pub returns-clause-askable : goal.returns-clause-askable
returns-clause-askable c =
    pairs_askable c.args.proof.now _ c.limits_of_detached.ensures.digest c.limits_of_detached.ensures.sound (returns-clause-pairs c)
