use Rattle.std.proofs.Common.{arith}
use Rattle.std.proofs.lemmas.List.{length-take-le}
use Rattle.ots_store.proofs.Merged.{sunk_last, prefix_rises}
use Rattle.ots_store.proofs.index.sink.Goals as goal

pub first_from-at-requires-clause-rises : goal.first_from-at-requires-clause-rises
first_from-at-requires-clause-rises c = prefix_rises c.args.high c.args.left c.args.places.now c.args.all.now (omega (arith, c.requires.there)) c.requires.parted

pub returns-clause-parted : goal.returns-clause-parted
returns-clause-parted c =
    let high = c.args.high in
    let xs = c.args.places.now in
    let size = length-take-le high xs (omega (arith, c.requires.there)) in
    sunk_last c.args.all.now xs c.exchange.new.places c.first_from-at.result high c.args.left c.requires.some (omega (arith, size, c.first_from-at.ensures.bound)) c.requires.there c.requires.within
    c.requires.parted c.exchange.ensures.are c.first_from-at.ensures.before c.first_from-at.ensures.after
