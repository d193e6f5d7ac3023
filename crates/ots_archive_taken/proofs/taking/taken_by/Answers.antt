use Rattle.std.proofs.Common.{List, Option, subst}
use Rattle.std.specs.Prelude.{IfSome}
use Rattle.ots_archive_taken.proofs.Giving.{if_ok}
use Rattle.ots_archive_taken.specs.Taken.{TakesDraft, TakesProof, of_draft, of_proof}
use Rattle.ots_archive_taken.specs.declared.taking.Taken.{Taken}
use Rattle.ots_draft.specs.Draft.{IsDraft}
use Rattle.ots_ops.specs.declared.op.Op.{Op}
use Rattle.ots_archive_taken.proofs.taking.taken_by.Goals as goal

pub returns-in-Some : goal.returns-in-Some
returns-in-Some c =
    let draft = subst (λ (o : Option (List Op)). IfSome o (IsDraft c.args.proof.now)) c.in-Some.is c.in_ok-ops.ensures.some in
    if_ok _ _ c.taken_of_draft.result (λ (taken : Taken) (is : TakesDraft c.args.replies.now c.args.proof.now c.in-Some.ops c.args.least taken). of_draft c.in-Some.ops draft is)
    c.taken_of_draft.ensures

pub returns-in-None : goal.returns-in-None
returns-in-None c =
    if_ok _ _ c.taken_of_proof.result (λ (taken : Taken) (is : TakesProof c.args.replies.now c.args.proof.now taken). of_proof (c.in_ok-ops.ensures.none c.in-None.is) is)
    c.taken_of_proof.ensures
