use Rattle.std.proofs.Common.{◌≡◌, ◌/◌, length, ap, subst, arith}
use Rattle.ots_headers.specs.HeaderTable.{IsTable, headers_in}
use Rattle.ots_headers.proofs.TableBytes.{count_of}
use Rattle.ots_headers.proofs.headers.Headers.count.Goals as goal

pub returns-clause-count : goal.returns-clause-count
returns-clause-count c =
    let count : length (headers_in c.self.inside.bytes.items) ≡ length c.self.inside.bytes.items / 80 = count_of c.self.inside.bytes.items in
    let same : length (headers_in c.self.inside.bytes.items) ≡ length c.args.self.now.headers = ap (λ t. length t.headers) c.self.view_is in
    omega arith

pub returns-clause-limits : goal.returns-clause-limits
returns-clause-limits c = subst IsTable c.self.view_is c.self.invariant
