use Rattle.std.proofs.Common.{◌∙◌, ap, subst, get_or, List, []}
use Rattle.std.specs.Prelude.{◌≡◌, ℕ, Some}
use Rattle.ots_ops.specs.Value.{value}
use Rattle.ots_ops.specs.declared.op.Op.{Op}
use Rattle.ots_merkle.specs.CalendarTree.{root, path}
use Rattle.ots_anchor.proofs.Paths.{made_leads, path_made}
use Rattle.ots_anchor.proofs.way.complete_path.Goals as goal

pub returns-clause-path : goal.returns-clause-path
returns-clause-path c =
    path_made c.complete_way.result c.args.commitments.now c.args.i c.args.prefix.now c.args.suffix.now c.args.branch.now c.items.result.now
    (c.items.ensures ∙ c.in_ok-way.ensures.path ∙ ap (λ (z : List (List ℕ)). path z c.args.i) (c.deref.ensures.value ∙ c.in_ok-leaves.ensures)) c.complete_way.ensures.path

pub returns-clause-leads : goal.returns-clause-leads
returns-clause-leads c =
    made_leads c.complete_way.result c.args.commitments.now c.args.i c.args.prefix.now c.args.suffix.now c.args.branch.now (returns-clause-path c) c.complete_way.ensures.steps
    c.requires.is_commitment (c.told-commitments c.args.i c.requires.is_commitment) c.requires.short
    (subst (λ (z : List (List ℕ)). value (path z c.args.i) (get_or z c.args.i []) ≡ Some (root z)) (c.deref.ensures.value ∙ c.in_ok-leaves.ensures)
    (subst (λ (w : List Op). value w (get_or c.deref.result.now c.args.i []) ≡ Some (root c.deref.result.now)) c.in_ok-way.ensures.path c.in_ok-way.ensures.leads))
