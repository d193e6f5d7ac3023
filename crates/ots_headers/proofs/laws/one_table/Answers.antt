use Rattle.ots_headers.proofs.TableBytes.{one_table_lem}
use Rattle.ots_headers.proofs.laws.one_table.Goals as goal

pub returns : goal.returns
returns c = one_table_lem
