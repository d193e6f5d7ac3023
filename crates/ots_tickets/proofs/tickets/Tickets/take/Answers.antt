use Rattle.std.proofs.Common.{◌≡◌, inl, inr, refl, sym, ap, subst, List, ◌∙◌}
use Rattle.std.specs.Prelude.{Some, slice_get}
use Rattle.ots_round.specs.declared.ticket.Ticket.{Ticket}
use Rattle.ots_tickets.specs.Calls.{tree_of}
use Rattle.ots_tickets.specs.Search.{IsPlace}
use Rattle.ots_tickets.specs.Slots.{present, IsHere}
use Rattle.ots_tickets.specs.Tickets.{TicketsTold, Waits, IsSettled, NoneIs}
use Rattle.ots_tickets.specs.declared.settled.Settled.{Settled}
use Rattle.ots_tickets.specs.declared.slots.Slot.{Slot}
use Rattle.ots_tickets.proofs.Gaps.{none_present, one_here}
use Rattle.ots_tickets.proofs.Going.{away_in, given, given_leads, goes_at, settled_goes}
use Rattle.ots_tickets.proofs.tickets.Tickets.take.Goals as goal
use Rattle.ots_tickets.proofs.tickets.Tickets.take.Goals.{in-Some-place_of_waiting, in-None-place_of_waiting}

pub invariant_of-self-in-Some : goal.invariant_of-self-in-Some
invariant_of-self-in-Some c =
    let t : Ticket = c.args.ticket.now in
    let slots : List (Slot Settled) = c.self.inside.settled.items in
    let i = c.in-Some.i in
    let place : IsPlace (IsHere (IsSettled t)) slots i = subst (λ (l : List (Slot Settled)). IsPlace (IsHere (IsSettled t)) l i) c.deref.ensures.value c.in-Some.ensures in
    let away = away_in c.self.inside.settled c.give.new.slots c.deref_mut.result.now i c.deref_mut.ensures.value c.in_ok-tree-in-Some.ensures.gone in
    let one = goes_at (IsSettled t) slots _ i place away in
    settled_goes c.self.inside.next c.self.inside.count (present c.self.inside.waiting.items) (IsSettled t) (one.0).item (present slots) _ one.3 c.self.invariant

pub returns-in_ok-tree-in-Some-clause-takes : goal.returns-in_ok-tree-in-Some-clause-takes
returns-in_ok-tree-in-Some-clause-takes c =
    let t : Ticket = c.args.ticket.now in
    let slots : List (Slot Settled) = c.self.inside.settled.items in
    let i = c.in-Some.i in
    let place : IsPlace (IsHere (IsSettled t)) slots i = subst (λ (l : List (Slot Settled)). IsPlace (IsHere (IsSettled t)) l i) c.deref.ensures.value c.in-Some.ensures in
    let away = away_in c.self.inside.settled c.give.new.slots c.deref_mut.result.now i c.deref_mut.ensures.value c.in_ok-tree-in-Some.ensures.gone in
    let here : c.deref_mut.result.now ≡ slots = c.deref_mut.ensures.value in
    rw (← c.self.view_is) (inl (given t c.args.uri.now slots _ i c.in_ok-tree-in-Some.tree c.in_ok-tree-in-Some.receipt place
    (λ s at. c.in_ok-tree-in-Some.ensures.tree s (ap (λ (l : List (Slot Settled)). slice_get l i) here ∙ at))
    (λ s at. c.in_ok-tree-in-Some.ensures.receipt s (ap (λ (l : List (Slot Settled)). slice_get l i) here ∙ at)) away _ _ refl refl refl))

pub returns-in_ok-tree-in-Some-clause-leads : goal.returns-in_ok-tree-in-Some-clause-leads
returns-in_ok-tree-in-Some-clause-leads c =
    let t : Ticket = c.args.ticket.now in
    let slots : List (Slot Settled) = c.self.inside.settled.items in
    let i = c.in-Some.i in
    let place : IsPlace (IsHere (IsSettled t)) slots i = subst (λ (l : List (Slot Settled)). IsPlace (IsHere (IsSettled t)) l i) c.deref.ensures.value c.in-Some.ensures in
    let away = away_in c.self.inside.settled c.give.new.slots c.deref_mut.result.now i c.deref_mut.ensures.value c.in_ok-tree-in-Some.ensures.gone in
    let here : c.deref_mut.result.now ≡ slots = c.deref_mut.ensures.value in
    given_leads t c.args.uri.now slots _ i c.in_ok-tree-in-Some.tree c.in_ok-tree-in-Some.receipt place
    (λ s at. c.in_ok-tree-in-Some.ensures.tree s (ap (λ (l : List (Slot Settled)). slice_get l i) here ∙ at))
    (λ s at. c.in_ok-tree-in-Some.ensures.receipt s (ap (λ (l : List (Slot Settled)). slice_get l i) here ∙ at)) away c.self.invariant.leading c.self.invariant.short

pub returns-after-place_of_waiting-clause-takes : goal.returns-after-place_of_waiting-clause-takes
returns-after-place_of_waiting-clause-takes c =
    let t : Ticket = c.args.ticket.now in
    let old : TicketsTold = c.args.self.now in
    let none : NoneIs (IsSettled t) old.settled = rw (← c.self.view_is) (none_present (IsSettled t) c.self.inside.settled.items (subst (NoneIs (IsHere (IsSettled t))) c.deref.ensures.value c.in-None.ensures)) in
    let waiting : present c.self.inside.waiting.items ≡ old.waiting = ap (λ (x : TicketsTold). x.waiting) c.self.view_is in
    let here : c.deref-in-None.result.now ≡ c.self.inside.waiting.items = c.deref-in-None.ensures.value in
    elim c.match-place_of_waiting.branch [
      | in-Some-place_of_waiting w ↦
          let i = w.in-Some-place_of_waiting.field-0 in
          let place : IsPlace (IsHere (Waits t)) c.self.inside.waiting.items i = subst (λ (l : List (Slot Ticket)). IsPlace (IsHere (Waits t)) l i) here w.in-Some-place_of_waiting.ensures in
          inr (inl (none, rw (← waiting) (one_here (Waits t) c.self.inside.waiting.items i place), refl, w.result-is))
      | in-None-place_of_waiting w ↦
          inr (inr (none, rw (← waiting) (none_present (Waits t) c.self.inside.waiting.items (subst (NoneIs (IsHere (Waits t))) here w.in-None-place_of_waiting.ensures)), refl, w.result-is))
    ]
