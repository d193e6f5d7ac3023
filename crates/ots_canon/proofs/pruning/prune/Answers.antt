use Rattle.std.proofs.Common.{◌∙◌}
use Rattle.std.proofs.lemmas.List.{append-nil}
use Rattle.ots_canon.proofs.Canons.{one_nodes}
use Rattle.ots_canon.proofs.Forms.{if_ok}
use Rattle.ots_canon.proofs.Pruned.{kept_pre, prune_kept, prune_none}
use Rattle.ots_canon.proofs.pruning.prune.Goals as goal

pub first_path-requires-clause-nodes : goal.first_path-requires-clause-nodes
first_path-requires-clause-nodes c = one_nodes c.args.tree.now c.in_ok-tokens.tokens (c.in_ok-tokens.ensures ∙ append-nil c.tokens.result.now ∙ c.tokens.ensures.tokens) c.tokens.ensures.pre

pub from_tokens-requires : goal.from_tokens-requires
from_tokens-requires c =
    let same = c.in_ok-tokens.ensures ∙ append-nil c.tokens.result.now ∙ c.tokens.ensures.tokens in
    kept_pre c.args.tree.now c.in_ok-kept-in-Some.kept.items c.in-Some.height c.tokens.ensures.pre (rw same at c.in-Some.ensures) (rw same at c.in_ok-kept-in-Some.ensures)

pub returns-in-Some : goal.returns-in-Some
returns-in-Some c =
    let same = c.in_ok-tokens.ensures ∙ append-nil c.tokens.result.now ∙ c.tokens.ensures.tokens in
    if_ok c.from_tokens.result _ _ (λ pruned e.
    prune_kept c.args.tree.now c.in_ok-kept-in-Some.kept.items pruned c.in-Some.height c.tokens.ensures.pre (rw same at c.in-Some.ensures) (rw same at c.in_ok-kept-in-Some.ensures) e)
    c.from_tokens.ensures

pub returns : goal.returns
returns c =
    let same = c.in_ok-tokens.ensures ∙ append-nil c.tokens.result.now ∙ c.tokens.ensures.tokens in
    if_ok c.canon.result _ _ (λ form h. prune_none c.args.tree.now form (rw same at c.in-None.ensures) h) c.canon.ensures
