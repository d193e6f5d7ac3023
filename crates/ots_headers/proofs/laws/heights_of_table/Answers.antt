use Rattle.ots_headers.proofs.TableBytes.{heights_lem}
use Rattle.ots_headers.proofs.laws.heights_of_table.Goals as goal

pub returns : goal.returns
returns c = heights_lem
