use Rattle.ots_archive_steps.proofs.proofs.read_proof.Goals as goal

pub returns-in-Line : goal.returns-in-Line
returns-in-Line g c = rw c.in-Line.is c.read_line.ensures
