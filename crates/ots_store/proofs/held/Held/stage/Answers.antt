use Rattle.std.proofs.Common.{subst, sym}
use Rattle.ots_store.specs.Held.{HeldTold, Holds}
use Rattle.ots_store.proofs.Holding.{on_ok, spared, sparing}
use Rattle.ots_store.proofs.held.Held.stage.Goals as goal

pub returns-clause-ok : goal.returns-clause-ok
returns-clause-ok c =
    on_ok c.stage.result (λ staged kept flight h. sparing _ _ c.stage.new.self _ (staged kept flight (spared kept flight c.self.inside.lists _ (subst (λ (x : HeldTold). Holds kept flight x) (sym c.self.view_is) h)))) c.stage.ensures.ok
