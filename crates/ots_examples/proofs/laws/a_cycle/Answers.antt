use Rattle.ots_examples.proofs.Cycle.{are_few, are_these, are_true, in_records, is_answered, is_block, is_cycle, is_given, is_round, files_cycle, some_fits, some_uri}
use Rattle.ots_examples.proofs.laws.a_cycle.Goals as goal

pub returns-clause-round : goal.returns-clause-round
returns-clause-round c = is_round

pub returns-clause-block : goal.returns-clause-block
returns-clause-block c = is_block

pub returns-clause-records : goal.returns-clause-records
returns-clause-records c = in_records

pub returns-clause-these : goal.returns-clause-these
returns-clause-these c = are_these

pub returns-clause-right : goal.returns-clause-right
returns-clause-right c = are_true

pub returns-clause-given : goal.returns-clause-given
returns-clause-given c = is_given

pub returns-clause-answered : goal.returns-clause-answered
returns-clause-answered c = is_answered

pub returns-clause-cycle : goal.returns-clause-cycle
returns-clause-cycle c = is_cycle

pub returns-clause-few : goal.returns-clause-few
returns-clause-few c = are_few

pub returns-clause-some : goal.returns-clause-some
returns-clause-some c = some_fits

pub returns-clause-uri : goal.returns-clause-uri
returns-clause-uri c = some_uri

pub returns-clause-files : goal.returns-clause-files
returns-clause-files c = files_cycle
