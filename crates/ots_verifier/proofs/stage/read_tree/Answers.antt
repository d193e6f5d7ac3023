use Rattle.std.proofs.Common.{◌+◌, arith}
use Rattle.std.specs.Option.{option_copied}
use Rattle.ots_verifier.proofs.OnePiece.{place_fits, open_refused, open_trailed}
use Rattle.ots_verifier.proofs.stage.read_tree.Goals as goal

pub moved-requires : goal.moved-requires
moved-requires c =
    let d = c.requires.stands in
    let e = c.in-Err.ensures.finds c.args.header.digest d.1.follows in
    place_fits c.args.bitcoin.now (option_copied c.args.litecoin) d.0 c.args.piece.now c.args.header c.args.following.now c.in-Err.fault d.1 (omega (arith, d.2, c.requires.size)) e.0

pub returns-then-used-piece-clause-at : goal.returns-then-used-piece-clause-at
returns-then-used-piece-clause-at c = λ bytes o is.
    let w = (rw c.in-Ok-Done.field-0-is at c.in-Ok-Done.ensures.finds) c.args.header.digest o.follows in
    rw c.trailing.ensures
    (open_trailed c.args.bitcoin.now (option_copied c.args.litecoin) bytes c.args.piece.now c.args.header c.args.following.now c.follow_piece.new.following c.in-Ok-Done.used (c.args.count + c.in-Ok-Done.used)
    o (omega (arith, is, c.requires.size)) w c.if-used-piece.true (omega (arith, is)))

pub returns-in-Err-clause-at : goal.returns-in-Err-clause-at
returns-in-Err-clause-at c = λ bytes o is.
    let e = c.in-Err.ensures.finds c.args.header.digest o.follows in
    rw c.moved.ensures (open_refused c.args.bitcoin.now (option_copied c.args.litecoin) bytes c.args.piece.now c.args.header c.args.following.now c.in-Err.fault o e.0 e.1)
