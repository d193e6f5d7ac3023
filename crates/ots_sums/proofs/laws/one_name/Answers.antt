use Rattle.ots_sums.proofs.Escapes.{escaped_once, shown_once}
use Rattle.ots_sums.proofs.laws.one_name.Goals as goal

pub returns-clause-escaped : goal.returns-clause-escaped
returns-clause-escaped c = escaped_once

pub returns-clause-shown : goal.returns-clause-shown
returns-clause-shown c = shown_once
