use Rattle.std.proofs.Common.{◌∙◌, ap}
use Rattle.ots_checking.specs.Verified.{TellsVerdict, Verifies, inputs_verified}
use Rattle.ots_checking.specs.declared.evidence.Evidence.{Evidence}
use Rattle.ots_checking.proofs.Short.{only_tells, stop_short, tells_verdict, told_enough}
use Rattle.ots_client_endings.proofs.Running.{read_finished, stop_told, told_finishes}
use Rattle.ots_client_endings.specs.Ending.{printing}
use Rattle.ots_client_text.specs.Lines.{verdict_text}
use Rattle.ots_client_inputs.specs.Inputs.{names_in}
use Rattle.ots_client_words.specs.Words.{read_verification}
use Rattle.ots_inputs.specs.Opened.{StopsAt}
use Rattle.ots_checking.proofs.verifying.verify.Goals as goal

pub returns-in-Ok-clause-runs : goal.returns-in-Ok-clause-runs
returns-in-Ok-clause-runs g c =
    read_finished (λ told. Verifies told (read_verification c.args.asked)) _ (TellsVerdict c.verdict-verdict.result) c.in-Ok.ensures.reads
    (λ e tells. c.in-Ok.ensures.reads.given e (c.verdict-verdict.result, c.verdict-verdict.ensures, tells))
    (told_finishes (TellsVerdict c.verdict-verdict.result) _ c.verdict_status.result _ _
    (λ bytes is. ap (printing c.verdict_status.result) is ∙ ap (λ s. printing s (verdict_text c.verdict-verdict.result)) c.verdict_status.ensures) c.print.ensures.sink.later c.print.ensures.printed)

pub returns-in-Err-clause-runs : goal.returns-in-Err-clause-runs
returns-in-Err-clause-runs g c = stop_told {A = Evidence} {stop = c.in-Err.stop} c.in-Err.ensures.reads (c.refuse_stop.ensures.told _ _)

pub returns-in-Ok-clause-bounded : goal.returns-in-Ok-clause-bounded
returns-in-Ok-clause-bounded g c = λ ran.
    absurd (told_enough (TellsVerdict c.verdict-verdict.result) _ _ _ (tells_verdict c.verdict-verdict.result)
    (told_finishes (TellsVerdict c.verdict-verdict.result) _ c.verdict_status.result (g.S.Shelf.told c.read_evidence.new.shelf) (g.S.Shelf.faults c.read_evidence.new.shelf)
    (λ bytes is. ap (printing c.verdict_status.result) is ∙ ap (λ s. printing s (verdict_text c.verdict-verdict.result)) c.verdict_status.ensures) c.print.ensures.sink.later c.print.ensures.printed) ran)

pub returns-in-Err-clause-bounded : goal.returns-in-Err-clause-bounded
returns-in-Err-clause-bounded g c = λ ran.
    c.in-Err.ensures.bounded (stop_short (Verifies _ (read_verification c.args.asked))
    (StopsAt (names_in (inputs_verified (read_verification c.args.asked))) (g.S.Shelf.told c.args.shelf.now).opened (g.S.Shelf.told c.read_evidence.new.shelf).opened
    (g.S.Shelf.faults c.args.shelf.now) (g.S.Shelf.faults c.read_evidence.new.shelf)) c.in-Err.stop.name.now c.in-Err.stop.why _ _ _ (only_tells _ (read_verification c.args.asked))
    c.in-Err.ensures.reads.stopped (c.refuse_stop.ensures.told (g.S.Shelf.told c.read_evidence.new.shelf) (g.S.Shelf.faults c.read_evidence.new.shelf)) ran)
