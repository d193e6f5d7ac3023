use Rattle.std.proofs.Common.{List, ℕ, [], ◌∷◌, ◌∙◌, ap}
use Rattle.ots_tree.proofs.Untruncated.{sound_pre}
use Rattle.ots_tree.proofs.PendingPaths.{result_found}
use Rattle.ots_tree.proofs.pending.pending_messages.Goals as goal

pub returns : goal.returns
returns c =
    let digest = ap (λ (z : List ℕ). z ∷ []) (c.in_ok-digest.ensures ∙ c.bytes.ensures.bytes) in
    result_found c.args.proof.now c.tokens.result.now c.depths.result.now c.in_ok-messages.messages c.pending_of.result
    c.depths.ensures.kept (sound_pre _ _ c.args.proof.now.tree_sound) c.tokens.ensures.tokens (c.in_ok-messages.ensures ∙ digest) c.pending_of.ensures
