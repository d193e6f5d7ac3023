use Rattle.std.proofs.Common.{◌++◌, ap, refl}
use Rattle.std.specs.List.{flat_map}
use Rattle.ots_tree.specs.Kept.{beside}
use Rattle.ots_info.specs.Listing.{file_line, item_line}
use Rattle.ots_printer.proofs.Pieces.{puts_as, puts_then}
use Rattle.ots_info.proofs.listing.put_proof.Goals as goal

pub returns : goal.returns
returns g c = (
  _,
  (beside c.args.proof.now.tree c.depths.result.now, c.depths.ensures.listed, refl),
  puts_as (ap (λ z. file_line c.args.proof.now.hash c.args.proof.now.digest ++ flat_map item_line (beside z c.depths.result.now)) c.tokens.ensures.tokens)
      (puts_then c.put_file.ensures c.put_items.ensures g.met.K.Sink.same_trans),
)
