use Rattle.std.proofs.Common.{◌∙◌, inl, ap}
use Rattle.ots_checking.specs.Sampled.{Samples}
use Rattle.ots_client_endings.specs.Ending.{printing}
use Rattle.ots_client_endings.proofs.Running.{told_finishes}
use Rattle.ots_client_text.specs.Lines.{sample_text}
use Rattle.ots_checking.proofs.sampling.sample.Goals as goal

pub returns-in-Ok-clause-finishes : goal.returns-in-Ok-clause-finishes
returns-in-Ok-clause-finishes g c = λ shelf faults.
    inl (told_finishes (Samples c.args.asked.paths) _ c.verdict_status.result shelf faults
    (λ bytes is. (c.in-Ok.sample, c.in-Ok.ensures, ap (printing c.verdict_status.result) is ∙ ap (λ s. printing s (sample_text c.in-Ok.sample)) c.verdict_status.ensures))
    c.print.ensures.sink.later c.print.ensures.printed)
