use Rattle.std.proofs.Common.{◌≡◌, ◌++◌, ◌∷◌, [], ◌∙◌, sym, ap, List, take, get_or}
use Rattle.std.proofs.lemmas.List.{take_more}
use Rattle.ots_tickets.specs.Slots.{present}
use Rattle.ots_tickets.specs.declared.slots.Slot.{Slot}
use Rattle.ots_tickets.proofs.Gaps.{present_append}
use Rattle.ots_tickets.proofs.slots.present.Goals as goal

pub loop-slot-preserved : goal.loop-slot-preserved
loop-slot-preserved c =
    let slots = c.args.slots.now in
    let i = c.loop-slot.slot-index in
    let one = c.slot-item.result in
    c.in_ok-add_present.ensures
    ∙ ap (λ (l : List _). l ++ present (one ∷ [])) c.loop-slot.invariant
    ∙ sym (present_append (take i slots) (one ∷ []))
    ∙ ap (λ (s : Slot _). present (take i slots ++ s ∷ [])) c.slot-item.is
    ∙ ap present (sym (take_more slots i one c.loop-slot-test.true))
