use Rattle.std.proofs.Common.{Some, ◌∙◌, refl}
use Rattle.ots_pending.proofs.Completion.{all_put, form_is_completed, some_put, whole_is_completed}
use Rattle.ots_pending.proofs.SoundTrees.{completed_sound}
use Rattle.ots_pending.proofs.completing.completed.Goals as goal

pub returns-then-are_none-clause-completed : goal.returns-then-are_none-clause-completed
returns-then-are_none-clause-completed c =
    form_is_completed c.args.proof.now c.args.pairs.now c.args.trees.now c.in_ok-form.form (c.are_none.ensures.0 c.if-are_none.true) c.in_ok-form.ensures

pub returns-then-are_none-clause-sound : goal.returns-then-are_none-clause-sound
returns-then-are_none-clause-sound c =
    completed_sound c.args.proof.now c.args.pairs.now c.args.trees.now c.in_ok-form.form c.requires.pairs c.requires.sound c.limits_of_detached.ensures.sound
    (returns-then-are_none-clause-completed c)

pub grown_part-requires-clause-ready : goal.grown_part-requires-clause-ready
grown_part-requires-clause-ready c =
    some_put c.args.pairs.now c.args.trees.now c.in_ok-ready.ready.items c.deref.result.now c.in_ok-ready.ensures.ready c.in_ok-ready.ensures.trees c.deref.ensures.value

pub returns-clause-completed : goal.returns-clause-completed
returns-clause-completed c =
    let given = c.in_ok-ready.ensures.trees.given in
    let are = c.in_ok-ready.ensures.trees.are in
    let put = all_put c.args.pairs.now c.args.trees.now c.in_ok-ready.ready.items c.deref.result.now given c.in_ok-ready.ensures.ready are c.deref.ensures.value in
    let part = c.in_ok-grown_part.ensures.part given put in
    let form = c.in_ok-form.form in
    let all = c.in_ok-all.ensures.form c.args.pairs.now given (Some c.args.proof.now.digest) form part in
    whole_is_completed c.args.proof.now c.args.pairs.now c.args.trees.now given form are c.in_ok-form.ensures c.in_ok-all.all all
    (c.in_ok-all.ensures.whole ∙ c.in_ok-grown_part.ensures.free refl)

pub returns-clause-sound : goal.returns-clause-sound
returns-clause-sound c =
    completed_sound c.args.proof.now c.args.pairs.now c.args.trees.now c.in_ok-all.all.tree c.requires.pairs c.requires.sound c.limits_of_detached.ensures.sound
    (returns-clause-completed c)
