use Rattle.ots_reader.proofs.Spellings.{spelled_token, no_fault}
use Rattle.ots_reader.proofs.cut.token_in.Goals as goal

pub unreachable-requires : goal.unreachable-requires
unreachable-requires c = no_fault c.args.bytes.now c.requires.0 _ c.requires.1 c.in-Err.ensures.err

pub returns : goal.returns
returns c = λ x s. spelled_token c.args.bytes.now _ x _ c.in-Ok.ensures.ok s
