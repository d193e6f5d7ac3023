use Rattle.ots_cycle.proofs.Whole.{whole_confirmed, whole_few, whole_leads}
use Rattle.ots_cycle.proofs.laws.a_cycle_is_confirmed.Goals as goal

pub returns-clause-few : goal.returns-clause-few
returns-clause-few c = whole_few

pub returns-clause-leads : goal.returns-clause-leads
returns-clause-leads c = whole_leads

pub returns-clause-confirmed : goal.returns-clause-confirmed
returns-clause-confirmed c = whole_confirmed
