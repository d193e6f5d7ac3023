use Rattle.std.proofs.Common.{List, None, Some, arith, refl, subst, sym}
use Rattle.ots_draft.proofs.Takes.{form_long, long_taken, taken_is, taken_sound, told_taken}
use Rattle.ots_draft.specs.inner.Gathering.{HaveForm, IsFormWithin}
use Rattle.ots_ops.specs.declared.op.Op.{Op}
use Rattle.ots_tree.specs.Made.{IsUnder}
use Rattle.ots_draft.proofs.taking.taken_draft.Goals as goal

pub returns-in_default : goal.returns-in_default
returns-in_default c =
    let trees = c.args.trees.now in
    let within : IsFormWithin trees c.args.most None = subst (IsFormWithin trees c.args.most) c.in_default.is c.in_ok-form.ensures in
    form_long c.args.proof.now c.args.ops.now trees c.args.most within.whole c.requires.draft c.requires.sound within.is within.told

pub returns-then-spelled_length-most : goal.returns-then-spelled_length-most
returns-then-spelled_length-most c =
    let trees = c.args.trees.now in
    let form = c.in-Some.form in
    let tree = c.in_ok-tree.tree in
    let within : IsFormWithin trees c.args.most (Some form) = subst (IsFormWithin trees c.args.most) c.in-Some.is c.in_ok-form.ensures in
    let is : HaveForm trees form = subst (HaveForm trees) (sym within.told) within.is in
    let under : IsUnder c.args.ops.now form tree = subst (λ (ops : List Op). IsUnder ops form tree) c.items.ensures c.in_ok-tree.ensures in
    long_taken c.args.proof.now c.args.ops.now trees c.args.most form tree c.requires.draft c.requires.sound is under
    (let bytes = c.spelled_length.ensures in let more = c.if-spelled_length-most.true in omega arith)

pub invariant_of-result : goal.invariant_of-result
invariant_of-result c =
    let proof = c.args.proof.now in
    let trees = c.args.trees.now in
    let form = c.in-Some.form in
    let tree = c.in_ok-tree.tree in
    let within : IsFormWithin trees c.args.most (Some form) = subst (IsFormWithin trees c.args.most) c.in-Some.is c.in_ok-form.ensures in
    let is : HaveForm trees form = subst (HaveForm trees) (sym within.told) within.is in
    let under : IsUnder c.args.ops.now form tree = subst (λ (ops : List Op). IsUnder ops form tree) c.items.ensures c.in_ok-tree.ensures in
    record {
      digest_of_hash = proof.digest_of_hash;
      tree_sound = ∣ taken_sound proof c.args.ops.now trees form tree c.requires.draft c.requires.sound is under ∣₁;
    }

pub returns : goal.returns
returns c =
    let proof = c.args.proof.now in
    let trees = c.args.trees.now in
    let form = c.in-Some.form in
    let tree = c.in_ok-tree.tree in
    let within : IsFormWithin trees c.args.most (Some form) = subst (IsFormWithin trees c.args.most) c.in-Some.is c.in_ok-form.ensures in
    let is : HaveForm trees form = subst (HaveForm trees) (sym within.told) within.is in
    let under : IsUnder c.args.ops.now form tree = subst (λ (ops : List Op). IsUnder ops form tree) c.items.ensures c.in_ok-tree.ensures in
    told_taken proof c.args.ops.now trees c.args.most _ (taken_is proof c.args.ops.now trees form _ refl refl is under)
    (let bytes = c.spelled_length.ensures in let few = c.if-spelled_length-most.false in let fits = c.ranges.most.fits in omega arith)
