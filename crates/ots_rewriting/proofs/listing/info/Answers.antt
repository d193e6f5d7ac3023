use Rattle.std.proofs.Common.{[], refl}
use Rattle.ots_client_endings.proofs.Running.{input_finished, input_told, told_finishes}
use Rattle.ots_client_inputs.proofs.Inputs.{a_proof}
use Rattle.ots_client_text.specs.declared.status.Status.TheVariants.{Done}
use Rattle.ots_info.specs.Listing.{IsInfoText}
use Rattle.ots_rewriting.specs.Info.{PrintsInfo}
use Rattle.ots_rewriting.proofs.listing.info.Goals as goal

pub returns-in-Ok-clause-runs : goal.returns-in-Ok-clause-runs
returns-in-Ok-clause-runs g c =
    input_finished (λ told. PrintsInfo) (a_proof _) c.in-Ok.ensures (PrintsInfo c.in-Ok.proof) (λ e is. is)
    (told_finishes (PrintsInfo c.in-Ok.proof) (IsInfoText c.in-Ok.proof) Done _ _ (λ bytes text. (bytes, text, refl)) c.print.ensures.sink.later c.print.ensures.printed)

pub returns-in-Err-clause-runs : goal.returns-in-Err-clause-runs
returns-in-Err-clause-runs g c = input_told (λ told. PrintsInfo) [] c.in-Err.stop (a_proof _) c.in-Err.ensures (c.refuse_stop.ensures.told _ _)
