use Rattle.ots_round.proofs.Leading.{root_part, mac_part}
use Rattle.ots_round.proofs.laws.commitment_parts.Goals as goal

pub returns-clause-root : goal.returns-clause-root
returns-clause-root c = root_part

pub returns-clause-mac : goal.returns-clause-mac
returns-clause-mac c = mac_part
