use Rattle.std.proofs.Common.{rules, ◌≡◌, ◌≤◌, ℕ, List, [], ◌∷◌, sym, subst, Some, Option}
use Rattle.atomic_table.specs.Table.{opening}
use Rattle.ots_calendar.specs.Book.{BookTold}
use Rattle.ots_shared.specs.Rule.{IsKept}
use Rattle.ots_shared.specs.Steps.{opener}
use Rattle.ots_shared.proofs.Callers.{opens}
use Rattle.ots_shared.proofs.shared.Shared.open.Goals as goal

pub new-requires : goal.new-requires
new-requires g c =
    let b : BookTold g.row.D.Denot = c.args.book in
    let items : c.push_reserved.new.self.items ≡ Some b ∷ [] = search rules in
    let few : c.from.result ≤ 65 = search rules in
    let same : b ≡ c.of.result.value = sym c.of.ensures in
    subst (λ (z : BookTold g.row.D.Denot × (ℕ × List (Option (BookTold g.row.D.Denot)))). IsKept c.from.result z.0.store.journal.limit (opening (0 ∷ 0 ∷ z.1.0 ∷ []) z.1.1 (opener c.from.result z.0)))
    (λ i. (same i, (sym c.count_records-records.ensures i, sym items i))) (opens c.from.result b few)
