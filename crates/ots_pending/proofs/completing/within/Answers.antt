use Rattle.std.proofs.Common.{◌<◌, ◌≤◌, List, length, Some, sym, subst, arith}
use Rattle.ots_canon.specs.Canonical.{IsCanonOf}
use Rattle.ots_tree.specs.Wire.{spelled}
use Rattle.ots_tree.specs.declared.token.Token.{Token}
use Rattle.ots_pending.specs.Grown.{ArePut}
use Rattle.ots_pending.specs.Parts.{IsFormOfPart}
use Rattle.ots_pending.proofs.Completion.{some_put}
use Rattle.ots_pending.proofs.Putting.{put_of_ready}
use Rattle.ots_pending.proofs.AtLeast.{trees_given}
use Rattle.ots_pending.proofs.Within.{all_too_long, too_long, told_whole}
use Rattle.ots_pending.proofs.completing.within.Goals as goal

pub returns-then-branch-most : goal.returns-then-branch-most
returns-then-branch-most c =
    let proof = c.args.proof.now in
    let trees = trees_given c.args.trees.now c.requires.canonical in
    all_too_long proof c.args.pairs.now c.args.trees.now c.requires.pairs c.requires.sound c.limits_of_detached.ensures.sound c.in_ok-form.form trees.given c.args.most c.in_ok-form.ensures
    trees.are c.limits_of_trees.ensures c.limits_of_tree.ensures (λ made completed. let low = c.in_ok-at_least.ensures made completed in let more = c.if-branch-most.true in omega arith)

pub grown_part-requires-clause-ready : goal.grown_part-requires-clause-ready
grown_part-requires-clause-ready c =
    some_put c.args.pairs.now c.args.trees.now c.in_ok-ready.ready.items c.deref.result.now c.in_ok-ready.ensures.ready c.in_ok-ready.ensures.trees c.deref.ensures.value

pub loop-made-init : goal.loop-made-init
loop-made-init c =
    let pairs = c.args.pairs.now in
    let form = c.in_ok-form.form in
    let m = Some c.args.proof.now.digest in
    let low : c.in_ok-made.made.next ≤ length form = (let all = c.in_ok-first.ensures.within (omega arith) in let same = c.in_ok-made.ensures.next in omega arith) in
    record {
      part = λ given put.
          subst (λ (z : List Token). IsFormOfPart pairs given m z c.in_ok-made.made) (sym c.form.view_is)
          (c.in_ok-made.ensures.form pairs given m form (c.in_ok-first.ensures.part given (subst (ArePut pairs given) (sym c.deref.ensures.value) put)));
      within = subst (λ (z : List Token). c.in_ok-made.made.next ≤ length z) (sym c.form.view_is) low;
    }

pub returns-then-spelled_length-room : goal.returns-then-spelled_length-room
returns-then-spelled_length-room c =
    let proof = c.args.proof.now in
    let pairs = c.args.pairs.now in
    let form = c.form.inside.tokens.items in
    let canon : IsCanonOf proof.tree form = subst (IsCanonOf proof.tree) (sym c.form.view_is) c.in_ok-form.ensures in
    let given = c.in_ok-ready.ensures.trees.given in
    let are = c.in_ok-ready.ensures.trees.are in
    let made = c.loop-made.invariant.part given (put_of_ready pairs c.args.trees.now c.in_ok-ready.ready.items given c.in_ok-ready.ensures.ready are) in
    let long : c.args.most < length (spelled c.loop-made.made.tree) = (let bytes = c.spelled_length.ensures in let more = c.if-spelled_length-room.true in omega arith) in
    too_long proof pairs c.args.trees.now c.requires.pairs c.requires.sound c.limits_of_detached.ensures.sound given form c.loop-made.made are canon made
    c.args.most c.limits_of_trees.ensures c.limits_of_tree.ensures long

pub with_next-requires-clause-ready : goal.with_next-requires-clause-ready
with_next-requires-clause-ready c =
    some_put c.args.pairs.now c.args.trees.now c.in_ok-ready.ready.items c.deref-in-loop-made.result.now c.in_ok-ready.ensures.ready c.in_ok-ready.ensures.trees c.deref-in-loop-made.ensures.value

pub loop-made-preserved : goal.loop-made-preserved
loop-made-preserved c =
    let pairs = c.args.pairs.now in
    let m = Some c.args.proof.now.digest in
    let is = c.form.view_is in
    record {
      part = λ given put.
          subst (λ (z : List Token). IsFormOfPart pairs given m z c.in_ok-made-2.made) (sym is)
          (c.in_ok-made-2.ensures.part given (subst (ArePut pairs given) (sym c.deref-in-loop-made.ensures.value) put)
          (subst (λ (z : List Token). IsFormOfPart pairs given m z c.loop-made.made) is (c.loop-made.invariant.part given put)));
      within =
          subst (λ (z : List Token). c.in_ok-made-2.made.next ≤ length z) (sym is)
          (c.in_ok-made-2.ensures.within (subst (λ (z : List Token). c.loop-made.made.next ≤ length z) is c.loop-made.invariant.within));
    }

pub returns : goal.returns
returns c =
    let proof = c.args.proof.now in
    let pairs = c.args.pairs.now in
    let form = c.form.inside.tokens.items in
    let canon : IsCanonOf proof.tree form = subst (IsCanonOf proof.tree) (sym c.form.view_is) c.in_ok-form.ensures in
    let given = c.in_ok-ready.ensures.trees.given in
    let are = c.in_ok-ready.ensures.trees.are in
    let made = c.loop-made.invariant.part given (put_of_ready pairs c.args.trees.now c.in_ok-ready.ready.items given c.in_ok-ready.ensures.ready are) in
    told_whole proof pairs c.args.trees.now c.requires.pairs c.requires.sound c.limits_of_detached.ensures.sound given form c.loop-made.made are canon made
    c.args.most c.told_within.result c.loop-made-test.false c.told_within.ensures
