use Rattle.std.proofs.Common.{◌≡◌, ◌∙◌, [], refl, sym, subst, rules}
use Rattle.ots_client_endings.proofs.Reading.{stop_into}
use Rattle.ots_client_endings.proofs.Running.{read_finished, read_short, stop_told, text_finishes}
use Rattle.ots_client_endings.specs.Ending.{refused}
use Rattle.ots_client_endings.specs.Outside.{Happens, alone}
use Rattle.ots_client_endings.specs.Runs.{Moment, Runs, at}
use Rattle.ots_client_text.specs.Refusal.{refusal_text}
use Rattle.ots_client_text.specs.declared.status.Status.TheVariants.{NonceFault, OutOfMemory}
use Rattle.ots_client_words.specs.Words.{read_stamping}
use Rattle.ots_stamping.proofs.Concluded.{concluded}
use Rattle.ots_stamping.proofs.Submitted.{draws_for, fault_drawn, not_drawn, stamps_as, submits_as, unheard}
use Rattle.ots_stamping.specs.Answered.{AnswersTo}
use Rattle.ots_stamping.specs.Stamp.{StampsFilesAs, inputs_stamped}
use Rattle.ots_stamping.proofs.stamping.stamp.Goals as goal

pub returns-in-Err-clause-runs : goal.returns-in-Err-clause-runs
returns-in-Err-clause-runs g c =
    stop_told {A = Unit {0}} {gives = λ told x. Unit {0}} (stop_into
    (λ e h. unheard g.D.Dialer.told g.D.Dialer.faults g.N.Nonces.left g.N.Nonces.faults _ (read_stamping c.args.asked) c.args.dialer.now c.args.nonces.now e h)
    (c.in-Err.ensures alone)) (c.refuse_stop.ensures.told _ _)

pub returns-in-Err-NonceFault-clause-runs : goal.returns-in-Err-NonceFault-clause-runs
returns-in-Err-NonceFault-clause-runs g c =
    let s = read_stamping c.args.asked in
    read_finished (λ told. StampsFilesAs (Happens g.D.Dialer.told g.D.Dialer.faults g.N.Nonces.left g.N.Nonces.faults c.args.dialer.now c.args.dialer.now c.args.nonces.now c.draw_targets.new.nonces) told s)
    _ (λ e. e ≡ refused [] NonceFault) (c.in-Ok.ensures alone)
    (λ e is. not_drawn g.D.Dialer.told g.D.Dialer.faults g.N.Nonces.left g.N.Nonces.faults c.in-Ok.submission (c.in-Ok.ensures alone).given _ _ _ _ refl
    (c.in-Err-NonceFault.ensures.failed c.in-Err-NonceFault.field-0-is) e is)
    (text_finishes (λ e. e ≡ refused [] NonceFault) NonceFault (refusal_text [] NonceFault) _ _ refl c.refuse.ensures.sink.later c.refuse.ensures.printed)

pub returns-in-Err-OutOfMemory-clause-runs : goal.returns-in-Err-OutOfMemory-clause-runs
returns-in-Err-OutOfMemory-clause-runs g c = read_short (c.in-Ok.ensures alone) refl

pub returns-in-Ok-submit-clause-runs : goal.returns-in-Ok-submit-clause-runs
returns-in-Ok-submit-clause-runs g c =
    let s = read_stamping c.args.asked in
    read_finished (λ told. StampsFilesAs (Happens g.D.Dialer.told g.D.Dialer.faults g.N.Nonces.left g.N.Nonces.faults c.args.dialer.now c.submit.new.dialer c.args.nonces.now c.draw_targets.new.nonces) told s)
    _ (AnswersTo g.D.Dialer.told g.D.Dialer.faults c.in-Ok.submission c.in-Ok-draw_targets.targets.items c.args.dialer.now c.submit.new.dialer) (c.in-Ok.ensures alone)
    (λ e is. stamps_as g.D.Dialer.told g.D.Dialer.faults g.N.Nonces.left g.N.Nonces.faults c.in-Ok.submission (c.in-Ok.ensures alone).given _ _ _ _ c.in-Ok-draw_targets.targets.items
    (c.in-Ok-draw_targets.ensures.digests ∙ search rules) c.in-Ok-draw_targets.ensures.drawn e is)
    c.in-Ok-submit.ensures.finishes

pub returns-in-Err-submit-clause-runs : goal.returns-in-Err-submit-clause-runs
returns-in-Err-submit-clause-runs g c =
    let s = read_stamping c.args.asked in
    subst (λ (z : Moment). Runs (λ told. StampsFilesAs (Happens g.D.Dialer.told g.D.Dialer.faults g.N.Nonces.left g.N.Nonces.faults c.args.dialer.now c.submit.new.dialer c.args.nonces.now c.draw_targets.new.nonces) told s)
    (inputs_stamped s) (at g.S.Shelf.told g.S.Shelf.faults g.K.Sink.taken g.K.Sink.faults c.args.shelf.now c.args.out.now) z OutOfMemory) (sym c.in-Err-submit.ensures.short) (read_short (c.in-Ok.ensures alone) refl)

pub returns-in-Ok-submit-clause-asks : goal.returns-in-Ok-submit-clause-asks
returns-in-Ok-submit-clause-asks g c =
    submits_as g.D.Dialer.told g.D.Dialer.faults g.N.Nonces.left g.N.Nonces.faults c.in-Ok.submission (c.in-Ok.ensures alone).given _ _ _ _ c.in-Ok-draw_targets.targets.items
    (c.in-Ok-draw_targets.ensures.digests ∙ search rules) c.in-Ok-draw_targets.ensures.drawn c.submit.ensures.asks

pub returns-in-Err-submit-clause-asks : goal.returns-in-Err-submit-clause-asks
returns-in-Err-submit-clause-asks g c =
    submits_as g.D.Dialer.told g.D.Dialer.faults g.N.Nonces.left g.N.Nonces.faults c.in-Ok.submission (c.in-Ok.ensures alone).given _ _ _ _ c.in-Ok-draw_targets.targets.items
    (c.in-Ok-draw_targets.ensures.digests ∙ search rules) c.in-Ok-draw_targets.ensures.drawn c.submit.ensures.asks

pub returns-in-Err-NonceFault-clause-draws : goal.returns-in-Err-NonceFault-clause-draws
returns-in-Err-NonceFault-clause-draws g c = draws_for g.N.Nonces.left c.args.asked c.in-Ok.submission c.deref.result.now _ _ (c.in-Ok.ensures alone).given (search rules) c.draw_targets.ensures.draws

pub returns-in-Err-OutOfMemory-clause-draws : goal.returns-in-Err-OutOfMemory-clause-draws
returns-in-Err-OutOfMemory-clause-draws g c = draws_for g.N.Nonces.left c.args.asked c.in-Ok.submission c.deref.result.now _ _ (c.in-Ok.ensures alone).given (search rules) c.draw_targets.ensures.draws

pub returns-in-Ok-submit-clause-draws : goal.returns-in-Ok-submit-clause-draws
returns-in-Ok-submit-clause-draws g c = draws_for g.N.Nonces.left c.args.asked c.in-Ok.submission c.deref.result.now _ _ (c.in-Ok.ensures alone).given (search rules) c.draw_targets.ensures.draws

pub returns-in-Err-submit-clause-draws : goal.returns-in-Err-submit-clause-draws
returns-in-Err-submit-clause-draws g c = draws_for g.N.Nonces.left c.args.asked c.in-Ok.submission c.deref.result.now _ _ (c.in-Ok.ensures alone).given (search rules) c.draw_targets.ensures.draws

pub returns-in-Err-clause-completes : goal.returns-in-Err-clause-completes
returns-in-Err-clause-completes g c = λ names told can. concluded _ names (read_stamping c.args.asked) _ _ _ _ can fault_drawn told (returns-in-Err-clause-runs g c)

pub returns-in-Ok-submit-clause-completes : goal.returns-in-Ok-submit-clause-completes
returns-in-Ok-submit-clause-completes g c = λ names told can. concluded _ names (read_stamping c.args.asked) _ _ _ _ can fault_drawn told (returns-in-Ok-submit-clause-runs g c)
