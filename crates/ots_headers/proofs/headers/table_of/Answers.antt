use Rattle.std.proofs.Common.{List, ℕ, subst}
use Rattle.ots_headers.specs.HeaderTable.{table_in}
use Rattle.ots_headers.specs.TableRead.{IsTableOf}
use Rattle.ots_headers.proofs.headers.table_of.Goals as goal

pub returns-clause-ok : goal.returns-clause-ok
returns-clause-ok c =
    subst (λ (b : List ℕ). IsTableOf c.args.first b (table_in c.args.first b)) c.deref.ensures.value
    (c.in_ok-check_length.ensures.ok c.args.first c.requires.first)

pub invariant_of-result : goal.invariant_of-result
invariant_of-result c = (returns-clause-ok c).limits
