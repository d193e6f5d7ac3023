use Rattle.ots_tree.proofs.Numbered.{result_listed}
use Rattle.ots_tree.proofs.listing.listed.Goals as goal

pub returns : goal.returns
returns c = result_listed c.args.tree.now _ c.depths.result.now _ c.tokens.ensures.tokens c.depths.ensures.kept c.copied_beside.ensures
