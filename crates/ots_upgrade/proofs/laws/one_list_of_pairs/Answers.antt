use Rattle.ots_upgrade.proofs.OneList.{one_list, some_list}
use Rattle.ots_upgrade.proofs.laws.one_list_of_pairs.Goals as goal

pub returns-clause-some : goal.returns-clause-some
returns-clause-some c = some_list c.args.proof.now c.depths.result.now c.depths.ensures.kept c.limits_of_detached.ensures.sound

pub returns-clause-one : goal.returns-clause-one
returns-clause-one c = one_list c.args.proof.now
