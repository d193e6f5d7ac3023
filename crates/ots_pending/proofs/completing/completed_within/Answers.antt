use Rattle.std.proofs.Common.{sym, subst, ◌∙◌}
use Rattle.ots_pending.specs.Forms.{AreForms}
use Rattle.ots_pending.proofs.SameForms.{canonical_forms, forms_long, sound_forms, result_within}
use Rattle.ots_pending.proofs.completing.completed_within.Goals as goal

pub within-requires-clause-trees : goal.within-requires-clause-trees
within-requires-clause-trees c =
    let forms : AreForms c.args.trees.now c.deref.result.now = subst (AreForms c.args.trees.now) (sym c.deref.ensures.value) c.in_ok-forms.ensures in
    forms_long c.args.trees.now c.deref.result.now forms ∙ c.requires.trees

pub within-requires-clause-sound : goal.within-requires-clause-sound
within-requires-clause-sound c =
    let forms : AreForms c.args.trees.now c.deref.result.now = subst (AreForms c.args.trees.now) (sym c.deref.ensures.value) c.in_ok-forms.ensures in
    sound_forms c.args.pairs.now c.args.trees.now c.deref.result.now forms c.requires.sound

pub within-requires-clause-canonical : goal.within-requires-clause-canonical
within-requires-clause-canonical c =
    let forms : AreForms c.args.trees.now c.deref.result.now = subst (AreForms c.args.trees.now) (sym c.deref.ensures.value) c.in_ok-forms.ensures in
    canonical_forms c.args.trees.now c.deref.result.now forms

pub returns : goal.returns
returns c =
    let forms : AreForms c.args.trees.now c.deref.result.now = subst (AreForms c.args.trees.now) (sym c.deref.ensures.value) c.in_ok-forms.ensures in
    result_within c.args.proof.now c.args.pairs.now c.args.trees.now c.deref.result.now c.args.most c.within.result forms c.within.ensures
