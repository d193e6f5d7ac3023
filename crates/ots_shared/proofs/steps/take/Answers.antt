use Rattle.std.proofs.Common.{◌∷◌, sym, ap, ◌∙◌, arith, Some}
use Rattle.atomic_table.specs.Table.{rest}
use Rattle.ots_shared.specs.Steps.{Sat}
use Rattle.ots_shared.proofs.Turns.{looks}
use Rattle.ots_shared.proofs.steps.take.Goals as goal

pub load-served-requires : goal.load-served-requires
load-served-requires g c = let three = c.requires.own.1 in (c.requires.own.0, omega arith, looks _ _ _ _ c.requires.drawn.0 _ c.requires.drawn.1)

pub exchange-requires : goal.exchange-requires
exchange-requires g c =
    let hit = (c.load-served.ensures.2 c.requires.drawn.0 c.requires.drawn.1).0 (c.if-served-number.false ∙ c.requires.drawn.2) in
    let out = ap (λ (m : Sat g.row.D.Denot). m.1) hit.1 in (c.load-served.ensures.0 ∙ c.requires.own.0, (Some hit.0, out ∙ ap (λ l. (0, Some hit.0) ∷ l) (sym (ap rest out))))
