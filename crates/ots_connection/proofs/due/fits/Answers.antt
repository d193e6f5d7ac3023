use Rattle.std.proofs.Common.{arith}
use Rattle.ots_connection.proofs.Short.{spelled_few}
use Rattle.ots_connection.proofs.due.fits.Goals as goal

pub returns : goal.returns
returns c = omega (arith, spelled_few c.args.tree.now c.tokens.ensures.limits, c.requires)
