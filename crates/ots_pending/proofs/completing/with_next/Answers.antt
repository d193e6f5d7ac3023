use Rattle.std.proofs.Common.{Some, refl}
use Rattle.ots_pending.proofs.Completion.{parts_joined}
use Rattle.ots_pending.proofs.completing.with_next.Goals as goal

pub returns-clause-part : goal.returns-clause-part
returns-clause-part c given put is =
    let pairs = c.args.pairs.now in
    let form = c.args.form.now in
    let m = Some c.args.proof.now.digest in
    c.form_of_part.ensures.form pairs given m form
    (parts_joined pairs given m form c.in_ok-beside.field-0 c.args.made c.in_ok-next.next _ is.is (c.in_ok-next.ensures.part given put) c.in_ok-beside.ensures refl refl refl)
