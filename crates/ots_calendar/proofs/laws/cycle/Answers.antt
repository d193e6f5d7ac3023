use Rattle.ots_calendar.proofs.WholeWay.{cycle_leads, cycle_few, whole_cycle}
use Rattle.ots_calendar.proofs.laws.cycle.Goals as goal

pub returns-clause-leads : goal.returns-clause-leads
returns-clause-leads c = cycle_leads

pub returns-clause-few : goal.returns-clause-few
returns-clause-few c = cycle_few

pub returns-clause-trees : goal.returns-clause-trees
returns-clause-trees c = whole_cycle
