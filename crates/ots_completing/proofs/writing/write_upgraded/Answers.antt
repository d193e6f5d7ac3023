use Rattle.std.proofs.Common.{◌≡◌, ℕ, List, [], ◌∷◌, ap, subst}
use Rattle.ots_base.specs.declared.limits.TheConstants.{MAX_PROOF_FILE}
use Rattle.ots_client_endings.specs.Ending.{prints}
use Rattle.ots_client_endings.specs.Runs.{Finishes, at}
use Rattle.ots_client_text.specs.Refusal.{refusal_text}
use Rattle.ots_client_text.specs.declared.status.Status.TheVariants.{TooBig}
use Rattle.ots_completing.proofs.Asked.{longer}
use Rattle.ots_client_endings.proofs.Finished.{both_finish, ending}
use Rattle.ots_completing.specs.Upgrade.{WritesAsked, asked_text, asked_too_long}
use Rattle.ots_tree.specs.declared.detached.Detached.{Detached}
use Rattle.ots_upgrade.specs.Upgrading.{IsProofWithin}
use Rattle.ots_completing.proofs.writing.write_upgraded.Goals as goal

pub returns-in-Some-clause-finishes : goal.returns-in-Some-clause-finishes
returns-in-Some-clause-finishes g c = λ made told.
    let within = subst (IsProofWithin MAX_PROOF_FILE made) c.in-Some.is told in
    subst (λ (z : Detached). Finishes (WritesAsked c.args.upgraded.now.asked c.args.to.now z)
    (at g.S.Shelf.told g.S.Shelf.faults g.K.Sink.taken g.K.Sink.faults c.args.shelf.now c.args.out.now)
    (at g.S.Shelf.told g.S.Shelf.faults g.K.Sink.taken g.K.Sink.faults c.write_asked.new.shelf c.write_asked.new.out) c.write_asked.result) within.1
    c.write_asked.ensures.finishes

pub returns-in-None-clause-finishes : goal.returns-in-None-clause-finishes
returns-in-None-clause-finishes g c = λ made told.
    let long = longer made (subst (IsProofWithin MAX_PROOF_FILE made) c.in-None.is told) in
    both_finish (WritesAsked c.args.upgraded.now.asked c.args.to.now made) (λ bytes. bytes ≡ asked_text c.args.upgraded.now.asked) TooBig (refusal_text c.args.to.now TooBig) _ _
    (λ bytes is. asked_too_long long (ap (λ (z : List ℕ). ending TooBig (prints z ∷ prints (refusal_text c.args.to.now TooBig) ∷ [])) is))
    c.refuse_after.ensures.sink.later c.refuse_after.ensures.printed
