use Rattle.std.proofs.Common.{◌≡◌, ◌≤◌, inl, inr, refl, sym, subst, arith, length, List}
use Rattle.std.specs.Vec.{with_items}
use Rattle.ots_round.specs.declared.ticket.Ticket.{Ticket}
use Rattle.ots_tickets.specs.Search.{IsPlace}
use Rattle.ots_tickets.specs.Slots.{present, IsHere}
use Rattle.ots_tickets.specs.Tickets.{Waits, IsSettled, NoneIs, TakesOne}
use Rattle.ots_tickets.specs.declared.settled.Settled.{Settled}
use Rattle.ots_tickets.specs.declared.slots.Slot.{Slot}
use Rattle.ots_tickets.proofs.Gaps.{none_present, one_less}
use Rattle.ots_tickets.proofs.Going.{away_in, goes_at, settled_goes, waiting_goes}
use Rattle.ots_tickets.proofs.tickets.Tickets.withdraw.Goals as goal

pub invariant_of-self : goal.invariant_of-self
invariant_of-self c =
    let t : Ticket = c.args.ticket.now in
    let slots : List (Slot Settled) = c.self.inside.settled.items in
    let i = c.in-Some.i in
    let place : IsPlace (IsHere (IsSettled t)) slots i = subst (λ (l : List (Slot Settled)). IsPlace (IsHere (IsSettled t)) l i) c.deref.ensures.value c.in-Some.ensures in
    let away = away_in c.self.inside.settled c.leave_settled.new.slots c.deref_mut.result.now i c.deref_mut.ensures.value c.leave_settled.ensures in
    let one = goes_at (IsSettled t) slots _ i place away in
    settled_goes c.self.inside.next c.self.inside.count (present c.self.inside.waiting.items) (IsSettled t) (one.0).item (present slots) _ one.3 c.self.invariant

pub returns-in-Some : goal.returns-in-Some
returns-in-Some c =
    let t : Ticket = c.args.ticket.now in
    let slots : List (Slot Settled) = c.self.inside.settled.items in
    let i = c.in-Some.i in
    let place : IsPlace (IsHere (IsSettled t)) slots i = subst (λ (l : List (Slot Settled)). IsPlace (IsHere (IsSettled t)) l i) c.deref.ensures.value c.in-Some.ensures in
    let away = away_in c.self.inside.settled c.leave_settled.new.slots c.deref_mut.result.now i c.deref_mut.ensures.value c.leave_settled.ensures in
    let one = goes_at (IsSettled t) slots _ i place away in
    rw (← c.self.view_is) (inl (record { one = (one.0).item; takes = one.3; waiting = refl }))

pub overflow_sub-self : goal.overflow_sub-self
overflow_sub-self c =
    let t : Ticket = c.args.ticket.now in
    let slots : List (Slot Ticket) = c.self.inside.waiting.items in
    let i = c.in-Some-place_of_waiting.i in
    let place : IsPlace (IsHere (Waits t)) slots i = subst (λ (l : List (Slot Ticket)). IsPlace (IsHere (Waits t)) l i) c.deref-2.ensures.value c.in-Some-place_of_waiting.ensures in
    let away = away_in c.self.inside.waiting c.leave_waiting.new.slots c.deref_mut-in-Some-place_of_waiting.result.now i c.deref_mut-in-Some-place_of_waiting.ensures.value c.leave_waiting.ensures in
    let one = goes_at (Waits t) slots _ i place away in
    omega (arith, one_less (Waits t) (one.0).item (present slots) _ one.3, c.self.invariant.counted)

pub invariant_of-self-in-Some-place_of_waiting : goal.invariant_of-self-in-Some-place_of_waiting
invariant_of-self-in-Some-place_of_waiting c =
    let t : Ticket = c.args.ticket.now in
    let slots : List (Slot Ticket) = c.self.inside.waiting.items in
    let i = c.in-Some-place_of_waiting.i in
    let place : IsPlace (IsHere (Waits t)) slots i = subst (λ (l : List (Slot Ticket)). IsPlace (IsHere (Waits t)) l i) c.deref-2.ensures.value c.in-Some-place_of_waiting.ensures in
    let away = away_in c.self.inside.waiting c.leave_waiting.new.slots c.deref_mut-in-Some-place_of_waiting.result.now i c.deref_mut-in-Some-place_of_waiting.ensures.value c.leave_waiting.ensures in
    let one = goes_at (Waits t) slots _ i place away in
    waiting_goes c.self.inside.next c.self.inside.count (present c.self.inside.settled.items) (Waits t) (one.0).item (present slots) _ one.3 c.self.invariant

pub returns-in-Some-place_of_waiting : goal.returns-in-Some-place_of_waiting
returns-in-Some-place_of_waiting c =
    let t : Ticket = c.args.ticket.now in
    let slots : List (Slot Ticket) = c.self.inside.waiting.items in
    let i = c.in-Some-place_of_waiting.i in
    let place : IsPlace (IsHere (Waits t)) slots i = subst (λ (l : List (Slot Ticket)). IsPlace (IsHere (Waits t)) l i) c.deref-2.ensures.value c.in-Some-place_of_waiting.ensures in
    let away = away_in c.self.inside.waiting c.leave_waiting.new.slots c.deref_mut-in-Some-place_of_waiting.result.now i c.deref_mut-in-Some-place_of_waiting.ensures.value c.leave_waiting.ensures in
    let one = goes_at (Waits t) slots _ i place away in
    let is : (one.0).item ≡ t = (one.3).is in
    rw (← c.self.view_is) (inr (record {
      none = none_present (IsSettled t) c.self.inside.settled.items (subst (NoneIs (IsHere (IsSettled t))) c.deref.ensures.value c.in_default.ensures);
      takes = subst (λ (x : Ticket). TakesOne (Waits t) x (present slots) (present (with_items c.self.inside.waiting c.leave_waiting.new.slots).items)) is one.3;
      settled = refl;
    }))

pub returns : goal.returns
returns c =
    let t : Ticket = c.args.ticket.now in (
      rw (← c.self.view_is) (none_present (IsSettled t) c.self.inside.settled.items (subst (NoneIs (IsHere (IsSettled t))) c.deref.ensures.value c.in_default.ensures)),
      rw (← c.self.view_is) (none_present (Waits t) c.self.inside.waiting.items (subst (NoneIs (IsHere (Waits t))) c.deref-2.ensures.value c.in_default-place_of_waiting.ensures)),
      refl,
    )
