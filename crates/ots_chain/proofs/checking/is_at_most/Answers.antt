use Rattle.std.proofs.Common.{◌∙◌}
use Rattle.ots_chain.proofs.Compared.{at_most}
use Rattle.ots_chain.proofs.checking.is_at_most.Goals as goal

pub returns : goal.returns
returns c =
    at_most c.args.hash.now c.args.number.now c.as_slice.result.now c.as_slice-2.result.now c.cmp.result c.is_le.result
    (c.as_slice.ensures ∙ c.reverse.ensures.after) c.as_slice-2.ensures c.cmp.ensures c.is_le.ensures c.told-hash c.told-number
    c.fits-hash c.fits-number
