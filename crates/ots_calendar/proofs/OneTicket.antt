-- What becomes of a ticket that is put, by its number.
use Rattle.std.proofs.Common.{◌≡◌, ◌≢◌, inl, inr, ℕ, suc, List, [], ◌∷◌, ◌++◌, length, refl, sym, ap, subst, ◌∙◌, arith, length-append}
use Rattle.std.specs.List.{AllByRecursion}
use Rattle.std.specs.Prelude.{Bool, true, false}
use Rattle.ots_round.specs.declared.ticket.Ticket.{Ticket}
use Rattle.ots_tickets.specs.declared.settled.Settled.{Settled}
use Rattle.ots_tickets.specs.declared.tickets.Taken.{Taken}
use Rattle.ots_tickets.specs.Calls.{Takes, Withdraws}
use Rattle.ots_tickets.specs.Tickets.{TicketsTold, IsNew, IsSettled, NoneIs, Waits, settles, settles_from}
use Rattle.ots_calendar.specs.Book.{IsGone, IsTaken}
use Rattle.ots_calendar.proofs.Standing.{all_one}

-- what stands after all others, and is none of them
last_only : (ws before after : List Ticket) (t : Ticket) → AllByRecursion (λ (x : Ticket). x.number ≢ t.number) ws → ws ++ t ∷ [] ≡ before ++ t ∷ after → before ++ after ≡ ws
last_only [] [] after t new same = let none : [] ≡ after = cc in sym none
last_only [] (b ∷ before) after t new same = absurd (omega (arith, ap length same, length-append before (t ∷ after)))
last_only (w ∷ ws) [] after t new same = absurd (new.0 (let is : w ≡ t = cc in ap (λ (x : Ticket). x.number) is))
last_only (w ∷ ws) (b ∷ before) after t new same =
    let first : w ≡ b = cc in
    let rest : ws ++ t ∷ [] ≡ before ++ t ∷ after = cc in
    let left : before ++ after ≡ ws = last_only ws before after t new.1 rest in
    (λ i. (sym first) i ∷ left i)

module _ (old mid new : TicketsTold) (t : Ticket) (is_new : IsNew t.number old) (waiting : mid.waiting ≡ old.waiting ++ t ∷ []) (settled : mid.settled ≡ old.settled) where
  waits : NoneIs (Waits t) mid.waiting → ⊥
  waits none = all_one (λ (x : Ticket). Waits t x → ⊥) old.waiting t [] (subst (NoneIs (Waits t)) waiting none) refl

  pub is_gone : (answer : Bool) → Withdraws t mid new answer → IsGone old new answer
  is_gone true (inl w) =
      absurd (all_one (λ (s : Settled). s.ticket.number ≢ t.number) w.takes.before w.one w.takes.after
      (subst (AllByRecursion (λ (s : Settled). s.ticket.number ≢ t.number)) (sym settled ∙ w.takes.whole) is_new.settled) (ap (λ (x : Ticket). x.number) w.takes.is))
  is_gone true (inr w) = record {
    yes = refl;
    waiting = w.takes.rest ∙ last_only old.waiting w.takes.before w.takes.after t is_new.waiting (sym waiting ∙ w.takes.whole);
    settled = w.settled ∙ settled;
  }
  is_gone false n = absurd (waits n.1)

-- ---- a round that is closed over it

none_right : (P : Settled → Type 0) (xs ys : List Settled) → NoneIs P (xs ++ ys) → NoneIs P ys
none_right P [] ys none = none
none_right P (x ∷ xs) ys none = none_right P xs ys none.1

is_last : (index : ℕ) (c : List ℕ) (leaves : List (List ℕ)) (s : ℕ) (ws : List Ticket) (t : Ticket) → NoneIs (IsSettled t) (settles_from index c leaves s (ws ++ t ∷ [])) → ⊥
is_last index c leaves s [] t none = none.0 refl
is_last index c leaves s (w ∷ ws) t none = is_last index c leaves (suc s) ws t none.1

module _ (key : List ℕ) (second index : ℕ) (waited : List Ticket) (before : List Settled) (closed new : TicketsTold) (t : Ticket) (uri : List ℕ)
    (settled : closed.settled ≡ before ++ settles key second index (waited ++ t ∷ [])) where
  there : NoneIs (IsSettled t) closed.settled → ⊥
  there none = is_last index _ _ 0 waited t (none_right (IsSettled t) before (settles key second index (waited ++ t ∷ [])) (subst (NoneIs (IsSettled t)) settled none))

  pub is_taken : (answer : Taken) → Takes t uri closed new answer → IsTaken closed new answer
  is_taken answer (inl g) = record { tree = _; receipt = g.one.receipt; waiting = g.waiting; given = g.answer }
  is_taken answer (inr (inl g)) = absurd (there g.0)
  is_taken answer (inr (inr g)) = absurd (there g.0)
