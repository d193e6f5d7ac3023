use Rattle.std.proofs.Common.{◌-◌}
use Rattle.std.proofs.lemmas.List.Sorted.{IsPermutation-put_mid}
use Rattle.ots_store.proofs.Merged.{exchanged}
use Rattle.ots_store.proofs.index.exchange.Goals as goal

pub returns-clause-moves : goal.returns-clause-moves
returns-clause-moves c = IsPermutation-put_mid c.args.low (c.args.high - c.args.low) c.args.places.now c.rotate_left.new.self c.rotate_left.ensures.permutation

pub returns-clause-are : goal.returns-clause-are
returns-clause-are c =
    exchanged c.args.low c.args.middle c.args.high c.args.places.now c.rotate_left.new.self c.requires.low c.requires.middle c.requires.high c.rotate_left.ensures.permutation c.rotate_left.ensures.by_index
