use Rattle.std.proofs.Common.{subst}
use Rattle.ots_mirror_pages.specs.Round.{IsOffer}
use Rattle.ots_mirror_pages.specs.declared.offer.Offer.{Offer}
use Rattle.ots_mirror.proofs.page.take_body.Goals as goal

pub returns-in-Ok-New-clause-taken : goal.returns-in-Ok-New-clause-taken
returns-in-Ok-New-clause-taken g c =
    let offer = subst (λ (z : Offer). IsOffer c.args.store.now.records c.args.body.now z) c.in-Ok-New.field-0-is c.in-Ok-New.ensures in
    rw c.items.ensures at (c.add_page.ensures.taken c.args.body.now) offer.0
