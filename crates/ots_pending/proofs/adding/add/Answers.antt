use Rattle.std.proofs.Common.{◌∙◌, List, ℕ, refl, subst}
use Rattle.ots_pending.specs.Distinct.{IsNumbered}
use Rattle.ots_pending.proofs.Raising.{put_one, on_ok}
use Rattle.ots_pending.proofs.adding.add.Goals as goal

pub returns : goal.returns
returns c = on_ok c.put.result (λ put m there.
    put_one c.args.listing.now _ c.requires c.in_ok-place.place c.args.message c.args.depth c.args.uri.now m _ there c.ranges.message.fits
    refl c.in_ok-place.ensures.distinct put c.in_ok-copy.ensures refl refl
    (subst (λ (z : List ℕ). IsNumbered c.args.listing.now.keys c.number.new.self z c.in_ok-place.place) (c.deref.ensures.value ∙ c.in_ok-key.ensures.is) c.in_ok-place.ensures.numbered)) c.put.ensures
