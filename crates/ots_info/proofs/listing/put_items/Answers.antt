use Rattle.std.proofs.Common.{arith, ap}
use Rattle.std.proofs.lemmas.List.{take_all}
use Rattle.std.specs.List.{flat_map}
use Rattle.ots_printer.proofs.Pieces.{puts_as, puts_nothing, puts_then}
use Rattle.ots_tree.specs.Kept.{beside}
use Rattle.ots_tree.proofs.Numbered.{length-beside}
use Rattle.ots_info.specs.Listing.{item_line}
use Rattle.ots_info.proofs.Items.{one_more}
use Rattle.ots_info.proofs.listing.put_items.Goals as goal

pub bounds-depths-at : goal.bounds-depths-at
bounds-depths-at g c = omega (arith, c.requires)

pub loop-at-init : goal.loop-at-init
loop-at-init g c = puts_nothing g.met.K.Sink.same_refl _

pub loop-at-preserved : goal.loop-at-preserved
loop-at-preserved g c =
    puts_as (one_more c.args.tokens.now c.args.depths.now c.loop-at.at _ c.requires c.loop-at-test.true c.index-tokens-at.is)
    (puts_then c.loop-at.invariant c.put_item.ensures g.met.K.Sink.same_trans)

pub returns : goal.returns
returns g c =
    puts_as (ap (flat_map item_line) (take_all c.loop-at.at (beside c.args.tokens.now c.args.depths.now) (omega (arith, length-beside c.args.tokens.now c.args.depths.now c.requires))))
    c.loop-at.invariant
