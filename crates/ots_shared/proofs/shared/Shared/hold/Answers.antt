use Rattle.std.proofs.Common.{◌≡◌, ◌<◌, ◌∙◌, ℕ, [], ◌∷◌, None, refl, sym, ap, subst}
use Rattle.ots_calendar.specs.Book.{BookTold}
use Rattle.ots_shared.specs.Rows.{numbers}
use Rattle.ots_shared.specs.Seats.{IsOut, view_of}
use Rattle.ots_shared.specs.Steps.{Sat, Takes, at_stage}
use Rattle.ots_shared.specs.declared.row.Numbers.{Numbers}
use Rattle.ots_shared.specs.declared.view.Stage.TheVariants.{Holds}
use Rattle.ots_shared.specs.declared.view.View.{View}
use Rattle.ots_shared.proofs.shared.Shared.hold.Goals as goal

is_out : {D : Type 0} (faults : D → ℕ) (v : View) (me now : Sat D) (b found : BookTold D) (found_numbers : Numbers) → me ≡ (v, []) → v.also ≡ [] → 0 < v.share → Takes me now b → found ≡ b → found_numbers ≡ numbers faults b
    → IsOut faults now found_numbers found
is_out faults v me now b found found_numbers is also share takes same are =
    let here : now ≡ (at_stage v (Holds takes.0 b.store.records), (0, None) ∷ []) = takes.1 ∙ ap (λ (m : Sat _). (at_stage m.0 (Holds takes.0 b.store.records), (0, None) ∷ [])) is in
    subst (λ (x : BookTold _). IsOut faults now found_numbers x) (sym same) (subst (λ (m : Sat _). IsOut faults m found_numbers b) (sym here) (record {
      holding = (takes.0, refl);
      settled = also;
      share = share;
      limit = takes.2.2 ∙ ap (λ (m : Sat _). m.0.limit) is;
      numbers_are = are;
    }))

pub invariant_of-result : goal.invariant_of-result
invariant_of-result g c =
    is_out g.D.Disk.faults (view_of c.args.pass.now) c.rise-place.result.me c.hold_place-book.new.place.me c.hold_place-book.result.0 c.of-found.result.value c.of-numbers.result c.rise-place.ensures.me refl
    c.rise-place.ensures.share c.hold_place-book.ensures.taken c.of-found.ensures c.of-numbers.ensures
