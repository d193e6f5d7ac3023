use Rattle.std.proofs.Common.{◌<◌, ◌≤◌, ◌^◌, length, arith, List, sym, ap, subst}
use Rattle.std.specs.List.{AllByRecursion}
use Rattle.ots_round.specs.declared.ticket.Ticket.{Ticket}
use Rattle.ots_round.specs.Round.{leaves, round_commitment}
use Rattle.ots_tickets.specs.declared.settled.Settled.{Settled}
use Rattle.ots_tickets.specs.Numbers.{Fits}
use Rattle.ots_tickets.specs.Slots.{present}
use Rattle.ots_tickets.specs.declared.slots.Slot.{Slot}
use Rattle.ots_tickets.specs.declared.tickets.TheConstants.{MAX_WAITING}
use Rattle.ots_tickets.specs.Tickets.{Leads, IsShort, TicketsTold}
use Rattle.ots_tickets.proofs.Places.{settles_below, below_index, all_joined, settles_lead, lead_index, settles_short, short_index}
use Rattle.ots_tickets.proofs.tickets.Tickets.settle.Goals as goal

pub invariant_of-self : goal.invariant_of-self
invariant_of-self c =
    let next = c.self.inside.next in
    let Below : Settled → Type 0 = λ s. s.ticket.number < next in
    let same = c.requires.same in
    let waiting : List Ticket = c.args.self.now.waiting in
    let below : AllByRecursion (λ (t : Ticket). t.number < next) waiting = subst (λ (x : TicketsTold). AllByRecursion (λ (t : Ticket). t.number < next) x.waiting) c.self.view_is c.self.invariant.waiting_below in
    let made : AllByRecursion Below c.args.made.settled.items =
    subst (AllByRecursion Below) (sym same.2.settled_are) (settles_below next 0 (round_commitment same.0 same.1 waiting) (leaves waiting) 0 waiting below) in
    let stored : AllByRecursion Below c.stored_at.result.items =
    subst (AllByRecursion Below) (sym c.stored_at.ensures.items) (below_index next c.args.index c.args.made.settled.items made) in
    let fit : AllByRecursion Fits waiting = subst (λ (x : TicketsTold). AllByRecursion Fits x.waiting) c.self.view_is c.self.invariant.waiting_fit in
    let lead : AllByRecursion Leads c.args.made.settled.items = subst (AllByRecursion Leads) (sym same.2.settled_are) (settles_lead 0 same.0 same.1 waiting fit) in
    let stored_lead : AllByRecursion Leads c.stored_at.result.items = subst (AllByRecursion Leads) (sym c.stored_at.ensures.items) (lead_index c.args.index c.args.made.settled.items lead) in
    let few : length waiting ≤ 2 ^ 16 = subst (λ (x : TicketsTold). length x.waiting ≤ 2 ^ 16) c.self.view_is c.self.invariant.few in
    let short : AllByRecursion IsShort c.args.made.settled.items = subst (AllByRecursion IsShort) (sym same.2.settled_are) (settles_short 0 (round_commitment same.0 same.1 waiting) waiting 0 waiting few) in
    let stored_short : AllByRecursion IsShort c.stored_at.result.items = subst (AllByRecursion IsShort) (sym c.stored_at.ensures.items) (short_index c.args.index c.args.made.settled.items short) in
    record {
      counted = ap (λ (l : List (Slot Ticket)). length (present l)) (sym c.clear.ensures.items);
      few = subst (λ (l : List (Slot Ticket)). length (present l) ≤ MAX_WAITING) (sym c.clear.ensures.items) (omega arith);
      waiting_fit = subst (λ (l : List (Slot Ticket)). AllByRecursion Fits (present l)) (sym c.clear.ensures.items) tt;
      leading = subst (AllByRecursion Leads) (sym c.add_settled.ensures) (all_joined Leads (present c.self.inside.settled.items) c.stored_at.result.items c.self.invariant.leading stored_lead);
      short = subst (AllByRecursion IsShort) (sym c.add_settled.ensures) (all_joined IsShort (present c.self.inside.settled.items) c.stored_at.result.items c.self.invariant.short stored_short);
      waiting_below = subst (λ (l : List (Slot Ticket)). AllByRecursion (λ (t : Ticket). t.number < next) (present l)) (sym c.clear.ensures.items) tt;
      settled_below = subst (AllByRecursion Below) (sym c.add_settled.ensures) (all_joined Below (present c.self.inside.settled.items) c.stored_at.result.items c.self.invariant.settled_below stored);
    }
