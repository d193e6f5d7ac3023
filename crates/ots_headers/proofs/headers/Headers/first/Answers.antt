use Rattle.std.proofs.Common.{subst}
use Rattle.ots_headers.specs.HeaderTable.{IsTable}
use Rattle.ots_headers.proofs.headers.Headers.first.Goals as goal

pub returns-clause-limits : goal.returns-clause-limits
returns-clause-limits c = subst IsTable c.self.view_is c.self.invariant
