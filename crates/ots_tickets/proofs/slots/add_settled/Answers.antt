use Rattle.std.proofs.Common.{◌≡◌, ◌∙◌, ◌++◌, ◌∷◌, [], List, false, ap, sym, append_assoc, arith}
use Rattle.std.proofs.lemmas.List.{reverse-append}
use Rattle.std.specs.Prelude.{reverse}
use Rattle.ots_tickets.specs.Slots.{present}
use Rattle.ots_tickets.specs.declared.settled.Settled.{Settled}
use Rattle.ots_tickets.specs.declared.slots.Slot.{Slot}
use Rattle.ots_tickets.proofs.Gaps.{present_append}
use Rattle.ots_tickets.proofs.slots.add_settled.Goals as goal

pub loop-item-preserved : goal.loop-item-preserved
loop-item-preserved c =
    let slots : List (Slot Settled) = c.loop-item.slots.items in
    let rest : List Settled = c.pop.new.self.items in
    let x : Settled = c.in-Some.item in
    let slot : Slot Settled = record { item = x; is_gone = false } in
    let more : c.push.new.self.items ≡ slots ++ slot ∷ [] = rw c.unwrap.ensures at c.push.ensures.items in
    record {
      all = ap (λ (l : List (Slot Settled)). present l ++ reverse rest) more
          ∙ ap (λ (l : List Settled). l ++ reverse rest) (present_append slots (slot ∷ []))
          ∙ append_assoc (present slots) (x ∷ []) (reverse rest)
          ∙ ap (λ (l : List Settled). present slots ++ l) (sym (reverse-append rest (x ∷ [])) ∙ ap reverse (sym c.in-Some.ensures.items))
          ∙ c.loop-item.invariant.all;
      room = omega (arith, c.push.ensures.len, c.push.ensures.capacity, c.in-Some.ensures.len, c.loop-item.invariant.room, rw c.unwrap.ensures at c.push.ensures.len);
    }
