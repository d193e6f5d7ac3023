use Rattle.ots_pending.proofs.Ends.{bitcoin_found}
use Rattle.ots_pending.proofs.bitcoin.has_bitcoin.Goals as goal

pub returns : goal.returns
returns c = bitcoin_found c.args.tree.now c.some_bitcoin.result c.tokens.ensures.pre (rw c.tokens.ensures.tokens at c.some_bitcoin.ensures)
