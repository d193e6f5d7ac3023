use Rattle.ots_file.specs.Told.{quiet_both, quiet_measured}
use Rattle.ots_file.proofs.runs.length_of.Goals as goal

pub returns-clause-quiet : goal.returns-clause-quiet
returns-clause-quiet g c =
    quiet_both _ _ (g.F.FileCalls.history c.prepare.new.file) _ c.prepare.ensures.quiet (quiet_measured _ _ _ c.len.result c.len.ensures.noted)
