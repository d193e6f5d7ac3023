use Rattle.std.proofs.Common.{◌≡◌, ℕ, List, [], ◌∷◌, ap, arith, rules}
use Rattle.ots_client_endings.proofs.Carrying.{text_lost, text_then}
use Rattle.ots_client_endings.specs.Ending.{makes, prints}
use Rattle.ots_client_text.specs.Lines.{complete_text}
use Rattle.ots_client_text.specs.Refusal.{refusal_text}
use Rattle.ots_client_text.specs.Status.{complete_status}
use Rattle.ots_client_text.specs.declared.status.Status.TheVariants.{TooBig}
use Rattle.ots_client_endings.proofs.Finished.{acts_finish, both_finish, ending}
use Rattle.ots_completing.specs.Upgrade.{WritesAsked, asked_made, asked_text, asked_too_long}
use Rattle.ots_detached.specs.File.{file_of}
use Rattle.ots_completing.proofs.writing.write_asked.Goals as goal

pub returns-then-is_too_long-clause-finishes : goal.returns-then-is_too_long-clause-finishes
returns-then-is_too_long-clause-finishes g c =
    both_finish (WritesAsked c.args.asked.now c.args.to.now c.args.proof.now) (λ bytes. bytes ≡ asked_text c.args.asked.now) TooBig (refusal_text c.args.to.now TooBig) _ _
    (λ bytes is. asked_too_long (search rules) (ap (λ (z : List ℕ). ending TooBig (prints z ∷ prints (refusal_text c.args.to.now TooBig) ∷ [])) is))
    c.refuse_after.ensures.sink.later c.refuse_after.ensures.printed

pub returns-in-Ok-clause-finishes : goal.returns-in-Ok-clause-finishes
returns-in-Ok-clause-finishes g c =
    let b = c.has_bitcoin-complete.result in
    let acts = λ (z : List ℕ). prints z ∷ makes c.args.to.now (file_of c.args.proof.now) ∷ prints (complete_text b) ∷ [] in
    acts_finish (WritesAsked c.args.asked.now c.args.to.now c.args.proof.now) (complete_status b) (acts c.in-Ok.ensures.printed.0)
    (asked_made b c.has_bitcoin-complete.ensures (c.written_file.ensures.reads (search rules)) (ap (λ (z : List ℕ). ending (complete_status b) (acts z)) c.in-Ok.ensures.printed.1))
    (let first = c.in-Ok.ensures.sink.later in let then = c.make_and_tell.ensures.sink.later in omega (arith, first, then))
    (text_then _ _ (λ rose. let first = c.in-Ok.ensures.sink.later in omega (arith, first, rose)) _ _ _ _ _ _ _ _ _ _ _ c.in-Ok.ensures.printed.2 c.make_and_tell.ensures.made)

pub returns-in-Err-clause-finishes : goal.returns-in-Err-clause-finishes
returns-in-Err-clause-finishes g c =
    let b = c.has_bitcoin-complete.result in
    let acts = λ (z : List ℕ). prints z ∷ makes c.args.to.now (file_of c.args.proof.now) ∷ prints (complete_text b) ∷ [] in
    acts_finish (WritesAsked c.args.asked.now c.args.to.now c.args.proof.now) (complete_status b) (acts c.in-Err.ensures.printed.0)
    (asked_made b c.has_bitcoin-complete.ensures (c.written_file.ensures.reads (search rules)) (ap (λ (z : List ℕ). ending (complete_status b) (acts z)) c.in-Err.ensures.printed.1))
    c.in-Err.ensures.sink.later
    (text_lost _ _ _ _ _ _ _ _ c.in-Err.ensures.printed.2.0 c.in-Err.ensures.printed.2.1)
