-- A ticket among others: given where its round is closed, and gone where it is withdrawn.
use Rattle.std.proofs.Common.{◌≡◌, ◌≢◌, inl, inr, ℕ, suc, ◌+◌, ◌<◌, ◌≤◌, Bool, true, false, List, [], ◌∷◌, ◌++◌, length, refl, sym, ap, subst, arith, length-append}
use Rattle.std.specs.List.{AllByRecursion}
use Rattle.ots_round.specs.Round.{leaves, round_commitment}
use Rattle.ots_round.specs.declared.ticket.Ticket.{Ticket}
use Rattle.ots_round.specs.declared.ticket.Receipt.{Receipt}
use Rattle.ots_tree.specs.declared.token.Token.{Token}
use Rattle.ots_connection.specs.Closing.{AllBear, IsKept, kept}
use Rattle.ots_tickets.specs.Calls.{Takes, Withdraws}
use Rattle.ots_tickets.specs.Tickets.{TicketsTold, IsSettled, NoneIs, OneIs, Waits, settles, settles_from}
use Rattle.ots_tickets.specs.declared.settled.Settled.{Settled}
use Rattle.ots_tickets.specs.declared.tickets.Taken.{Taken}
use Rattle.ots_tickets.specs.declared.tickets.Taken.TheVariants as taken

-- ---- one of them

none_one : {A : Type 0} (P : A → Type 0) (before : List A) (one : A) (after : List A) → NoneIs P (before ++ one ∷ after) → P one → ⊥
none_one P [] one after none is = none.0 is
none_one P (x ∷ before) one after none is = none_one P before one after none.1 is

pub none_is : {A : Type 0} (P : A → Type 0) (xs : List A) → OneIs P xs → NoneIs P xs → ⊥
none_is P xs one none = none_one P one.before one.one one.after (subst (NoneIs P) one.whole none) one.is

-- the ticket that was put last waits
pub put_waits : (ws xs : List Ticket) (t : Ticket) → xs ≡ ws ++ t ∷ [] → OneIs (Waits t) xs
put_waits ws xs t whole = record { before = ws; one = t; after = []; whole = whole; is = refl }

-- and no round of a new ticket is closed
pub put_unsettled : (t : Ticket) (settled : List Settled) → AllByRecursion (λ (s : Settled). s.ticket.number ≢ t.number) settled → NoneIs (IsSettled t) settled
put_unsettled t [] new = tt
put_unsettled t (s ∷ settled) new = ((λ is. new.0 (ap (λ (x : Ticket). x.number) is)), put_unsettled t settled new.1)

-- ---- a round that is closed

none_right : {A : Type 0} (P : A → Type 0) (xs ys : List A) → NoneIs P (xs ++ ys) → NoneIs P ys
none_right P [] ys none = none
none_right P (x ∷ xs) ys none = none_right P xs ys none.1

in_round : (index : ℕ) (c : List ℕ) (leaves : List (List ℕ)) (s : ℕ) (before : List Ticket) (one : Ticket) (after : List Ticket) (t : Ticket) → one ≡ t
    → NoneIs (IsSettled t) (settles_from index c leaves s (before ++ one ∷ after)) → ⊥
in_round index c leaves s [] one after t is none = none.0 is
in_round index c leaves s (w ∷ before) one after t is none = in_round index c leaves (suc s) before one after t is none.1

pub settles_it : (key : List ℕ) (second index : ℕ) (ws : List Ticket) (earlier settled : List Settled) (t : Ticket) → OneIs (Waits t) ws
    → settled ≡ earlier ++ settles key second index ws → NoneIs (IsSettled t) settled → ⊥
settles_it key second index ws earlier settled t one all none =
    let round : NoneIs (IsSettled t) (settles key second index ws) = none_right (IsSettled t) earlier (settles key second index ws) (subst (NoneIs (IsSettled t)) all none) in
    let parted : NoneIs (IsSettled t) (settles key second index (one.before ++ one.one ∷ one.after)) =
    subst (λ (l : List Ticket). NoneIs (IsSettled t) (settles key second index l)) one.whole round in
    in_round index _ _ 0 one.before one.one one.after t one.is parted

-- ---- the receipt of a ticket

all_one : {A : Type 0} (P : A → Type 0) (before : List A) (one : A) (after : List A) → AllByRecursion P (before ++ one ∷ after) → P one
all_one P [] one after all = all.0
all_one P (x ∷ before) one after all = all_one P before one after all.1

module _ (t : Ticket) (P : Receipt → Type 0) where
  later_bear : (earlier later : List Settled) → NoneIs (IsSettled t) earlier → AllBear t P later → AllBear t P (earlier ++ later)
  later_bear [] later none all = all
  later_bear (s ∷ earlier) later none all = ((λ is. absurd (none.0 is)), later_bear earlier later none.1 all)

  round_bears : (index : ℕ) (c : List ℕ) (leaves : List (List ℕ)) (i : ℕ) (ws : List Ticket) → P (record { index = index; commitment = c }) → AllBear t P (settles_from index c leaves i ws)
  round_bears index c leaves i [] p = tt
  round_bears index c leaves i (w ∷ ws) p = ((λ is. p), round_bears index c leaves (suc i) ws p)

  -- only the round has settled it
  pub closed_bears : (key : List ℕ) (second index : ℕ) (ws : List Ticket) (earlier settled : List Settled) → NoneIs (IsSettled t) earlier → settled ≡ earlier ++ settles key second index ws
      → P (record { index = index; commitment = round_commitment key second ws }) → AllBear t P settled
  closed_bears key second index ws earlier settled none all p =
      subst (AllBear t P) (sym all) (later_bear earlier (settles key second index ws) none (round_bears index (round_commitment key second ws) (leaves ws) 0 ws p))

  pub taken_bears : (uri : List ℕ) (old new : TicketsTold) (tree : List Token) (receipt : Receipt) → Takes t uri old new (taken.Settled tree receipt) → AllBear t P old.settled → P receipt
  taken_bears uri old new tree receipt (inl g) all =
      let x = g.takes in
      let same : receipt ≡ (g.one).receipt = (let e = g.answer in cc) in
      subst P (sym same) (all_one (λ (s : Settled). IsSettled t s → P s.receipt) x.before g.one x.after (subst (AllBear t P) x.whole all) x.is)
  taken_bears uri old new tree receipt (inr (inl g)) all = let e = g.3 in absurd cc
  taken_bears uri old new tree receipt (inr (inr g)) all = let e = g.3 in absurd cc

-- ---- how many wait

pub taken_fewer : (t : Ticket) (uri : List ℕ) (old new : TicketsTold) (answer : Taken) → Takes t uri old new answer → length new.waiting ≤ length old.waiting
taken_fewer t uri old new answer (inl g) = let e = ap length g.waiting in omega arith
taken_fewer t uri old new answer (inr (inl g)) = let e = ap (λ (x : TicketsTold). length x.waiting) g.2 in omega arith
taken_fewer t uri old new answer (inr (inr g)) = let e = ap (λ (x : TicketsTold). length x.waiting) g.2 in omega arith

pub taken_none : (t : Ticket) (uri : List ℕ) (old new : TicketsTold) (tree : List Token) (receipt : Receipt) → Takes t uri old new (taken.Settled tree receipt) → length new.waiting ≡ length old.waiting
taken_none t uri old new tree receipt (inl g) = ap length g.waiting
taken_none t uri old new tree receipt (inr (inl g)) = let e = g.3 in absurd cc
taken_none t uri old new tree receipt (inr (inr g)) = let e = g.3 in absurd cc

pub withdrawn_fewer : (t : Ticket) (old new : TicketsTold) (answer : Bool) → Withdraws t old new answer → length new.waiting ≤ length old.waiting
withdrawn_fewer t old new true (inl w) = let e = ap length w.waiting in omega arith
withdrawn_fewer t old new true (inr w) =
    let whole = ap length (w.takes).whole in
    let rest = ap length (w.takes).rest in
    omega (arith, length-append (w.takes).before (t ∷ (w.takes).after), length-append (w.takes).before (w.takes).after)
withdrawn_fewer t old new false w = let e = ap (λ (x : TicketsTold). length x.waiting) w.2 in omega arith

-- one fewer, where it waited
pub withdrawn_one : (t : Ticket) (old new : TicketsTold) (answer : Bool) → OneIs (Waits t) old.waiting → NoneIs (IsSettled t) old.settled
    → Withdraws t old new answer → length new.waiting + 1 ≡ length old.waiting
withdrawn_one t old new true one none (inl w) =
    absurd (none_is (IsSettled t) old.settled (record { before = (w.takes).before; one = w.one; after = (w.takes).after; whole = (w.takes).whole; is = (w.takes).is }) none)
withdrawn_one t old new true one none (inr w) =
    let whole = ap length (w.takes).whole in
    let rest = ap length (w.takes).rest in
    omega (arith, length-append (w.takes).before (t ∷ (w.takes).after), length-append (w.takes).before (w.takes).after)
withdrawn_one t old new false one none w = absurd (none_is (Waits t) old.waiting one w.1)

-- a round was not closed, and the ticket is withdrawn
pub refused_one : (t : Ticket) (old mid new : TicketsTold) (answer : Bool) → (mid.waiting ≡ old.waiting) × (mid.settled ≡ old.settled) → OneIs (Waits t) old.waiting → NoneIs (IsSettled t) old.settled
    → Withdraws t mid new answer → length new.waiting + 1 ≡ length old.waiting
refused_one t old mid new answer same one none w =
    let one_fewer = withdrawn_one t mid new answer (subst (OneIs (Waits t)) (sym same.0) one) (subst (NoneIs (IsSettled t)) (sym same.1) none) w in
    omega (arith, one_fewer, ap length same.0)

pub refused_fewer : (t : Ticket) (old mid new : TicketsTold) (answer : Bool) → (mid.waiting ≡ old.waiting) × (mid.settled ≡ old.settled) → OneIs (Waits t) old.waiting → NoneIs (IsSettled t) old.settled
    → Withdraws t mid new answer → length new.waiting < length old.waiting
refused_fewer t old mid new answer same one none w = omega (arith, refused_one t old mid new answer same one none w)

-- nobody knows the ticket, and nothing changes
pub taken_unknown : (t : Ticket) (uri : List ℕ) (old new : TicketsTold) → Takes t uri old new taken.Unknown → new ≡ old
taken_unknown t uri old new (inl g) = let e = g.answer in absurd cc
taken_unknown t uri old new (inr (inl g)) = let e = g.3 in absurd cc
taken_unknown t uri old new (inr (inr g)) = g.2

pub taken_waiting : (t : Ticket) (uri : List ℕ) (old new : TicketsTold) → Takes t uri old new taken.Waiting → new ≡ old
taken_waiting t uri old new (inl g) = let e = g.answer in absurd cc
taken_waiting t uri old new (inr (inl g)) = g.2
taken_waiting t uri old new (inr (inr g)) = let e = g.3 in absurd cc

-- ---- how many are kept

lengths : {A : Type 0} (before : List A) (one : A) (after : List A) → length (before ++ one ∷ after) ≡ suc (length (before ++ after))
lengths [] one after = refl
lengths (x ∷ before) one after = ap suc (lengths before one after)

pub taken_gone : (t : Ticket) (uri : List ℕ) (old new : TicketsTold) (tree : List Token) (receipt : Receipt) → Takes t uri old new (taken.Settled tree receipt) → kept new < kept old
taken_gone t uri old new tree receipt (inl g) =
    let x = g.takes in
    let waiting = ap length g.waiting in
    let whole = ap length x.whole in
    let rest = ap length x.rest in
    omega (arith, lengths x.before g.one x.after)
taken_gone t uri old new tree receipt (inr (inl g)) = let e = g.3 in absurd cc
taken_gone t uri old new tree receipt (inr (inr g)) = let e = g.3 in absurd cc

pub withdrawn_gone : (t : Ticket) (old new : TicketsTold) (answer : Bool) → (NoneIs (Waits t) old.waiting → NoneIs (IsSettled t) old.settled → ⊥) → Withdraws t old new answer → kept new < kept old
withdrawn_gone t old new true there (inl w) =
    let x = w.takes in
    let waiting = ap length w.waiting in
    let whole = ap length x.whole in
    let rest = ap length x.rest in
    omega (arith, lengths x.before w.one x.after)
withdrawn_gone t old new true there (inr w) =
    let x = w.takes in
    let settled = ap length w.settled in
    let whole = ap length x.whole in
    let rest = ap length x.rest in
    omega (arith, lengths x.before t x.after)
withdrawn_gone t old new false there w = absurd (there w.1 w.0)

pub refused_gone : (t : Ticket) (old mid new : TicketsTold) (answer : Bool) → (mid.waiting ≡ old.waiting) × (mid.settled ≡ old.settled) → OneIs (Waits t) old.waiting → Withdraws t mid new answer → kept new < kept old
refused_gone t old mid new answer same one w =
    let less = withdrawn_gone t mid new answer (λ none settled. none_is (Waits t) old.waiting one (subst (NoneIs (Waits t)) same.0 none)) w in
    omega (arith, less, ap length same.0, ap length same.1)

pub kept_there : (t : Ticket) (xs : TicketsTold) → IsKept t xs → NoneIs (Waits t) xs.waiting → NoneIs (IsSettled t) xs.settled → ⊥
kept_there t xs (inl one) waits settled = none_is (Waits t) xs.waiting one waits
kept_there t xs (inr one) waits settled = none_is (IsSettled t) xs.settled one settled

pub unknown_none : (t : Ticket) (uri : List ℕ) (old new : TicketsTold) → Takes t uri old new taken.Unknown → IsKept t old → ⊥
unknown_none t uri old new (inl g) is = let e = g.answer in cc
unknown_none t uri old new (inr (inl g)) is = let e = g.3 in cc
unknown_none t uri old new (inr (inr g)) is = kept_there t old is g.1 g.0
