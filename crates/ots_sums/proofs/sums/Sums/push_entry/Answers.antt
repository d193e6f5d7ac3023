use Rattle.std.proofs.Common.{refl, ◌∙◌, ◌++◌, ◌∷◌, [], ap, arith, length, List, ℕ}
use Rattle.ots_sums.specs.declared.sums.Place.{Place}
use Rattle.ots_sums.specs.Sums.{Entry}
use Rattle.ots_sums.specs.inner.Kept.{entries_in}
use Rattle.ots_sums.proofs.Keeping.{entries_more, entries_push}
use Rattle.ots_sums.proofs.sums.Sums.push_entry.Goals as goal

pub returns-then-not-branch : goal.returns-then-not-branch
returns-then-not-branch c =
    let p = rw c.if-not-branch.true at c.in_ok-put_name.ensures in
    let self = c.self.inside in
    (λ e is. p.0 e.name is.1, ap (λ (z : List ℕ). entries_in z self.places.items) p.1.1 ∙ entries_more self.bytes.items p.1.0 self.places.items c.self.invariant ∙ c.self.view_is)

pub returns : goal.returns
returns c =
    let p = rw c.if-not-branch.false at c.in_ok-put_name.ensures in
    let self = c.self.inside in
    let place : Place = record { digest = c.args.digest; start = c.len-start.result; end = c.len-end.result } in
    let entry : Entry = record { digest = c.args.digest; name = p.0 } in (
      entry,
      ap (λ (z : List Place). entries_in c.put_name.new.names.items z) c.in_ok-push.ensures.items ∙ ap (λ (z : List ℕ). entries_in z (self.places.items ++ place ∷ [])) p.1
          ∙ entries_push self.bytes.items p.0 c.args.digest self.places.items c.len-start.result c.len-end.result c.self.invariant
          (omega (arith, c.len-start.ensures, self.bytes.ok)) (omega (arith, c.len-end.ensures, c.put_name.new.names.ok, ap length p.1))
          ∙ ap (λ (z : List Entry). z ++ entry ∷ []) c.self.view_is,
      (refl, p.2),
    )
