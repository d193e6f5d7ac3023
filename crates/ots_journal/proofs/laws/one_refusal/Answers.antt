use Rattle.ots_journal.proofs.Unique.{refused_once}
use Rattle.ots_journal.proofs.laws.one_refusal.Goals as goal

pub returns : goal.returns
returns c = refused_once
