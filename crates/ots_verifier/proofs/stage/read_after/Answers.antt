use Rattle.std.proofs.Common.{arith}
use Rattle.std.specs.Option.{option_copied}
use Rattle.ots_verifier.proofs.OnePiece.{refused_more, whole_trailed}
use Rattle.ots_verifier.proofs.stage.read_after.Goals as goal

pub returns-else-is_empty-clause-at : goal.returns-else-is_empty-clause-at
returns-else-is_empty-clause-at c = λ bytes s.
    let w = rw c.in-Whole.is at s.is_at in
    rw c.trailing.ensures
    (whole_trailed c.args.bitcoin.now (option_copied c.args.litecoin) bytes c.args.piece.now c.in-Whole.field-0 c.args.following.now c.args.count w (omega (arith, s.counted, c.requires.size))
    (grind (arith, c.is_empty.ensures)) s.counted)

pub returns-in-Refused-clause-at : goal.returns-in-Refused-clause-at
returns-in-Refused-clause-at c = λ bytes s.
    let r = rw c.in-Refused.is at s.is_at in
    rw c.in-Refused.is (refused_more bytes c.args.piece.now c.in-Refused.field-0 r)
