use Rattle.std.proofs.Common.{[], ◌∷◌, sym, refl, ap, ◌∙◌, arith, Some}
use Rattle.atomic_table.specs.Table.{rest}
use Rattle.ots_shared.specs.Steps.{Sat, released}
use Rattle.ots_shared.proofs.Turns.{publishes, serves}
use Rattle.ots_shared.proofs.steps.give.Goals as goal

pub store-requires : goal.store-requires
store-requires g c =
    let three = c.requires.own.1 in
    let h = c.requires.held in
    let x = c.exchange.ensures in
    let out = ap (λ (m : Sat g.row.D.Denot). m.1) x.3 ∙ ap (λ (m : Sat g.row.D.Denot). (0, Some c.args.book) ∷ rest m.1) h.1.1 in
    let stage = ap (λ (m : Sat g.row.D.Denot). m.0.stage) x.3 ∙ ap (λ (m : Sat g.row.D.Denot). m.0.stage) h.1.1 in
    (x.0 ∙ c.requires.own.0, omega arith, publishes _ _ _ _ _ h.1.0 h.0 c.args.book _ stage out h.2 c.count_records-count.ensures)

pub fetch_add-served-requires : goal.fetch_add-served-requires
fetch_add-served-requires g c =
    let three = c.requires.own.1 in
    let h = c.requires.held in
    let x = c.exchange.ensures in
    let book = c.args.book in
    let out = ap (λ (m : Sat g.row.D.Denot). m.1) x.3 ∙ ap (λ (m : Sat g.row.D.Denot). (0, Some book) ∷ rest m.1) h.1.1 in
    let told = c.store.ensures.2 h.1.0 h.0 book (ap (λ (m : Sat g.row.D.Denot). m.0.stage) x.3 ∙ ap (λ (m : Sat g.row.D.Denot). m.0.stage) h.1.1) out in (
      c.store.ensures.0 ∙ (x.0 ∙ c.requires.own.0),
      omega arith,
      serves _ _ _ _ h.1.0 book.store.records book _ (ap (λ (m : Sat g.row.D.Denot). m.0.stage) told) (ap (λ (m : Sat g.row.D.Denot). m.1) told ∙ out) refl
          (c.requires.limit ∙ sym (ap (λ (m : Sat g.row.D.Denot). m.0.limit) told ∙ ap (λ (m : Sat g.row.D.Denot). m.0.limit) x.3)),
    )

pub returns-clause-given : goal.returns-clause-given
returns-clause-given g c =
    let h = c.requires.held in
    let x = c.exchange.ensures in
    let book = c.args.book in
    let out = ap (λ (m : Sat g.row.D.Denot). m.1) x.3 ∙ ap (λ (m : Sat g.row.D.Denot). (0, Some book) ∷ rest m.1) h.1.1 in
    let told = c.store.ensures.2 h.1.0 h.0 book (ap (λ (m : Sat g.row.D.Denot). m.0.stage) x.3 ∙ ap (λ (m : Sat g.row.D.Denot). m.0.stage) h.1.1) out in
    c.fetch_add-served.ensures.2 h.1.0 book.store.records (ap (λ (m : Sat g.row.D.Denot). m.0.stage) told)
    ∙ (ap (λ (m : Sat g.row.D.Denot). (released m.0 book.store.records, [])) told ∙ ap (λ (m : Sat g.row.D.Denot). (released m.0 book.store.records, [])) x.3)
