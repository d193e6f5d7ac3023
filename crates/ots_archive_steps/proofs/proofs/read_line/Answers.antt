use Rattle.std.proofs.Common.{sym}
use Rattle.ots_archive_steps.specs.Proofs.{ReadsLine}
use Rattle.ots_archive_steps.proofs.proofs.read_line.Goals as goal

pub returns-in-Ok : goal.returns-in-Ok
returns-in-Ok g c = ReadsLine.text c.in-Ok.ensures.cases.1 (rw (sym c.in-Ok.ensures.cases.0) c.draft_or_proof.ensures)
