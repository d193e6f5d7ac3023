-- Tickets of which one is gone.
use Rattle.std.proofs.Common.{◌≡◌, ℕ, ◌+◌, ◌-◌, ◌<◌, true, List, [], ◌∷◌, ◌++◌, length, length-set, set, take, drop, refl, sym, ap, subst, ◌∙◌, arith, length-append}
use Rattle.std.specs.List.{AllByRecursion}
use Rattle.std.proofs.lemmas.List.{with_items_is}
use Rattle.std.specs.Prelude.{Some, slice_get, Vec}
use Rattle.std.specs.Vec.{with_items}
use Rattle.std.specs.declared.alloc.Global.{Global}
use Rattle.ots_attest.specs.declared.attestation.Attestation.TheVariants.{Pending}
use Rattle.ots_ops.specs.Value.{value}
use Rattle.ots_ops.specs.declared.op.Op.{Op}
use Rattle.ots_ops.specs.declared.op.Op.TheVariants.{Append, Prepend}
use Rattle.ots_round.specs.Round.{way}
use Rattle.ots_round.specs.declared.ticket.Receipt.{Receipt}
use Rattle.ots_round.specs.declared.ticket.Ticket.{Ticket}
use Rattle.ots_tree.specs.Made.{lone}
use Rattle.ots_tree.specs.Wire.{pre}
use Rattle.ots_tree.specs.declared.token.Token.{Token}
use Rattle.ots_tickets.specs.Calls.{tree_of, LeadsTo, TakesSettled}
use Rattle.ots_tickets.specs.Numbers.{AreNumbered, Fits}
use Rattle.ots_tickets.specs.Search.{IsPlace}
use Rattle.ots_tickets.specs.Slots.{present, IsHere}
use Rattle.ots_tickets.specs.Tickets.{TicketsTold, IsSettled, IsShort, Leads, TakesOne}
use Rattle.ots_tickets.specs.declared.settled.Settled.{Settled}
use Rattle.ots_tickets.specs.declared.slots.Slot.{Slot}
use Rattle.ots_tickets.specs.declared.tickets.Taken.TheVariants as taken
use Rattle.ots_tickets.proofs.Gaps.{gone, one_less, takes_gone, there}
use Rattle.ots_tickets.proofs.Places.{all_left, all_one}

left : {A : Type 0} (Q P : A → Type 0) (one : A) (old new : List A) → TakesOne P one old new → AllByRecursion Q old → AllByRecursion Q new
left Q P one old new t all = subst (AllByRecursion Q) (sym t.rest) (all_left Q t.before one t.after (subst (AllByRecursion Q) t.whole all))

pub settled_goes : (next count : ℕ) (waiting : List Ticket) (P : Settled → Type 0) (one : Settled) (old new : List Settled) → TakesOne P one old new → AreNumbered next count waiting old → AreNumbered next count waiting new
settled_goes next count waiting P one old new t are = record {
  counted = are.counted;
  few = are.few;
  waiting_below = are.waiting_below;
  waiting_fit = are.waiting_fit;
  leading = left Leads P one old new t are.leading;
  short = left IsShort P one old new t are.short;
  settled_below = left (λ (s : Settled). s.ticket.number < next) P one old new t are.settled_below;
}

pub waiting_goes : (next count : ℕ) (settled : List Settled) (P : Ticket → Type 0) (one : Ticket) (old new : List Ticket) → TakesOne P one old new → AreNumbered next count old settled → AreNumbered next (count - 1) new settled
waiting_goes next count settled P one old new t are =
    let less : length old ≡ length new + 1 = one_less P one old new t in
    record {
      counted = omega (arith, less, are.counted);
      few = omega (arith, less, are.few);
      waiting_below = left (λ (w : Ticket). w.number < next) P one old new t are.waiting_below;
      waiting_fit = left Fits P one old new t are.waiting_fit;
      leading = are.leading;
      short = are.short;
      settled_below = are.settled_below;
    }

-- a vector of which an item is gone
pub away_in : {A : Type 0} (v : Vec (Slot A) Global) (ws xs : List (Slot A)) (i : ℕ) → xs ≡ v.items → ((x : A) × (ws ≡ set xs i (gone x))) → (x : A) × ((with_items v ws).items ≡ set v.items i (gone x))
away_in v ws xs i same away =
    let at : ws ≡ set v.items i (gone away.0) = away.1 ∙ ap (λ (l : List (Slot _)). set l i (gone away.0)) same in
    (away.0, with_items_is v ws (ap length at ∙ length-set v.items i (gone away.0) ∙ sym v.ok.0) ∙ at)

-- the ticket that stands at a place, once it is gone
pub goes_at : {A : Type 0} (P : A → Type 0) (xs ys : List (Slot A)) (i : ℕ) → IsPlace (IsHere P) xs i → ((x : A) × (ys ≡ set xs i (gone x))) → (s : Slot A) × (slice_get xs i ≡ Some s) × IsHere P s × TakesOne P s.item (present xs) (present ys)
goes_at P xs ys i place away =
    let s = there xs i place.inside in
    let here = place.is s.0 s.1 in
    (s.0, s.1, here, rw away.1 (takes_gone P xs i away.0 s.0 s.1 here))

-- ---- what is given for it

module _ (t : Ticket) (uri : List ℕ) (xs ys : List (Slot Settled)) (i : ℕ) (tree : List Token) (receipt : Receipt) (place : IsPlace (IsHere (IsSettled t)) xs i)
    (tree_is : (s : Slot Settled) → slice_get xs i ≡ Some s → tree ≡ tree_of s.item uri) (receipt_is : (s : Slot Settled) → slice_get xs i ≡ Some s → receipt ≡ s.item.receipt)
    (away : (x : Settled) × (ys ≡ set xs i (gone x))) where
  pub given : (old new : TicketsTold) → old.settled ≡ present xs → new.settled ≡ present ys → new.waiting ≡ old.waiting → TakesSettled t uri old new (taken.Settled tree receipt)
  given old new before after waiting =
      let s = goes_at (IsSettled t) xs ys i place away in
      record {
        one = (s.0).item;
        takes = rw (before, after) s.3;
        waiting = waiting;
        answer = (λ j. taken.Settled (tree_is s.0 s.1 j) (receipt_is s.0 s.1 j));
      }

  pub given_leads : AllByRecursion Leads (present xs) → AllByRecursion IsShort (present xs) → LeadsTo t uri tree receipt
  given_leads leading shorts =
      let s = goes_at (IsSettled t) xs ys i place away in
      let one : Settled = (s.0).item in
      let takes : TakesOne (IsSettled t) one (present xs) (present ys) = s.3 in
      let is : one.ticket ≡ t = takes.is in
      let leads : Leads one = all_one Leads takes.before one takes.after (subst (AllByRecursion Leads) takes.whole leading) in
      let short : IsShort one = all_one IsShort takes.before one takes.after (subst (AllByRecursion IsShort) takes.whole shorts) in
      let way_is : way one.ticket.nonce one.path one.receipt.commitment ≡ way t.nonce one.path one.receipt.commitment = ap (λ (x : Ticket). way x.nonce one.path one.receipt.commitment) is in
      rw (receipt_is s.0 s.1) (record {
        rest = one.path ++ Prepend (take 4 one.receipt.commitment) ∷ Append (drop 36 one.receipt.commitment) ∷ [];
        tree_is = tree_is s.0 s.1 ∙ ap (λ (ops : List Op). pre (lone ops (Pending uri))) way_is;
        leads = subst (λ (x : Ticket). value (way x.nonce one.path one.receipt.commitment) x.leaf ≡ Some one.receipt.commitment) is leads;
        few = omega (arith, length-append one.path (Prepend (take 4 one.receipt.commitment) ∷ Append (drop 36 one.receipt.commitment) ∷ []));
      })
