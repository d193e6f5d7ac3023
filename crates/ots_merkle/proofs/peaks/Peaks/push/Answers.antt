use Rattle.std.proofs.Common.{◌∙◌, sym, ap, [], inl, inr}
use Rattle.std.specs.Prelude.{vec_capacity}
use Rattle.std.proofs.lemmas.Result.{err_from_is_err_and}
use Rattle.ots_merkle.specs.Row.{all_added, added}
use Rattle.ots_merkle.proofs.Rows.{one_more}
use Rattle.ots_merkle.proofs.Spare.{spare_kept, one_less, push_fits}
use Rattle.ots_merkle.proofs.peaks.Peaks.push.Goals as goal

pub returns-in_err-add_growing-clause-spare : goal.returns-in_err-add_growing-clause-spare
returns-in_err-add_growing-clause-spare c =
    let p = err_from_is_err_and c.from_residual.result c.from_residual.ensures.1 in
    rw (p.1, ← c.self.view_is)
    (spare_kept (vec_capacity c.self.inside.row) (vec_capacity c.add_growing.new.row) _ c.in_err-add_growing.ensures.capacity)

pub returns-in_err-add_growing-clause-not_refused : goal.returns-in_err-add_growing-clause-not_refused
returns-in_err-add_growing-clause-not_refused c =
    rw (← c.self.view_is)
    (λ spare. absurd (elim (push_fits c.self.inside.row.items c.self.inside.pushed.leaves (vec_capacity c.self.inside.row) c.self.invariant spare) [
      | inl e ↦ let h = c.in_err-add_growing.ensures.room e in cc
      | inr l ↦ let h = c.in_err-add_growing.ensures.capacity_left l in cc
    ]))

pub invariant_of-self-2 : goal.invariant_of-self-2
invariant_of-self-2 c =
    c.in_ok-add_growing.ensures.added
    ∙ ap (λ r. added r c.args.leaf) c.self.invariant
    ∙ sym (one_more [] c.self.inside.pushed.leaves c.args.leaf)
    ∙ ap (all_added []) (sym c.and.ensures)

pub returns-clause-spare : goal.returns-clause-spare
returns-clause-spare c =
    rw (← c.self.view_is, c.and.ensures)
    (one_less (vec_capacity c.self.inside.row) (vec_capacity c.add_growing.new.row) c.self.inside.pushed.leaves c.args.leaf c.in_ok-add_growing.ensures.capacity)
