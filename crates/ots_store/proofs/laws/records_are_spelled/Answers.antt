use Rattle.ots_store.proofs.Spellings.{record_read, is_record}
use Rattle.ots_store.proofs.laws.records_are_spelled.Goals as goal

pub returns : goal.returns
returns c r form = (is_record r form, record_read r form)
