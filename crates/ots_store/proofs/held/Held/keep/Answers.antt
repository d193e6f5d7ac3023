use Rattle.std.proofs.Common.{subst, sym}
use Rattle.ots_store.specs.Held.{HeldTold, Holds}
use Rattle.ots_store.proofs.Holding.{spared, sparing}
use Rattle.ots_store.proofs.held.Held.keep.Goals as goal

pub returns-clause-holds : goal.returns-clause-holds
returns-clause-holds c kept flight h =
    sparing _ _ c.keep.new.self _ (c.keep.ensures.holds kept flight (spared kept flight c.self.inside.lists _ (subst (λ (x : HeldTold). Holds kept flight x) (sym c.self.view_is) h)))
