use Rattle.std.proofs.Common.{arith}
use Rattle.ots_address.proofs.ListLemmas.{cuts_at_comma, no_comma}
use Rattle.ots_calendar_url.proofs.list.cut_piece.Goals as goal

pub returns-in-Some : goal.returns-in-Some
returns-in-Some c =
    let cut = c.in-Some.ensures.byte (omega arith) (λ w o h. h) in
    cuts_at_comma c.args.text.now _ _ cut.2 cut.0 cut.1

pub returns-in-None : goal.returns-in-None
returns-in-None c = no_comma c.args.text.now (c.in-None.ensures.byte (omega arith) (λ w o h. h))
