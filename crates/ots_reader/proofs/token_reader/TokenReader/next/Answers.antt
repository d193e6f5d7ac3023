use Rattle.std.proofs.Common.{refl}
use Rattle.ots_reader.specs.Tokens.{Nexts}
use Rattle.ots_reader.proofs.ExactNext.{exact_next}
use Rattle.ots_reader.proofs.token_reader.TokenReader.next.Goals as goal

pub returns : goal.returns
returns c =
    let next : Nexts c.args.self.now c.args.piece.now c.read_next.result = rw (← c.self.view_is) c.read_next.ensures.next in (
      (refl, (λ _. tt), rw (← c.self.view_is) c.read_next.follows.holds-at-none.leaves),
      record { next = next; exact = exact_next c.args.self.now c.args.piece.now c.read_next.result c.requires.reading next; rests = tt },
    )
