use Rattle.ots_reader.proofs.Runs.{run_stands, one_stands}
use Rattle.ots_reader.proofs.laws.pieces.Goals as goal

pub returns-clause-stands : goal.returns-clause-stands
returns-clause-stands c = run_stands

pub returns-clause-one : goal.returns-clause-one
returns-clause-one c = one_stands
