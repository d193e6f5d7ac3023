use Rattle.std.proofs.Common.{sym, ap, ◌∙◌}
use Rattle.ots_store.specs.Records.{record_of}
use Rattle.ots_store.proofs.Spellings.{record_read}
use Rattle.ots_store.proofs.laws.one_record.Goals as goal

pub returns : goal.returns
returns c first second one two same = sym (record_read first one) ∙ ap record_of same ∙ record_read second two
