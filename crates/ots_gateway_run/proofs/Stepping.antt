-- One round of a run, after those before it.
use Rattle.std.proofs.Common.{◌≡◌, ◌≤◌, ◌∙◌, ℕ, List, [], length, Option, refl, sym, ap, subst, arith}
use Rattle.std.specs.Prelude.{Result, Ok, Err, None, Some, MatchResult}
use Rattle.ots_address.specs.Address.{AddressParts}
use Rattle.ots_base.specs.Cause.{Rose}
use Rattle.ots_gateway_words.specs.declared.status.GateStatus.{GateStatus}
use Rattle.ots_gateway_words.specs.declared.status.GateStatus.TheVariants as status
use Rattle.ots_gateway_words.specs.Lines.{round_lines}
use Rattle.ots_outside.specs.Streams.{Takes, TakesPrefix}
use Rattle.ots_gateway_run.specs.Accepted.{GivesAllBack, IsOver}
use Rattle.ots_gateway_run.specs.Going.{Ended, Going, Steps}
use Rattle.ots_gateway_run.specs.Rounds.{Gathered, IsRoundOf, Moment, Outside, stamped}
use Rattle.ots_gateway_run.specs.Serving.{ServesOne, lost, printed, status_of, unprinted}
use Rattle.ots_gateway_run.specs.declared.accepting.Accepting.{Accepting}
use Rattle.ots_gateway_run.specs.declared.accepting.Accepting.TheVariants.{Full, Over, Fault}
use Rattle.ots_gateway_run.proofs.Gone.{Accepts, fault_after, fault_now, going_more, lost_after, over_after, over_now, unprinted_after}

-- a round whose lines were printed, or not
pub served_one : {A L D : Type 0} (o : Outside A L D) (calendars : List AddressParts) (least : ℕ) (sink : Type 0) (links : List L) (old new : Moment A D) (taken now : Option (List ℕ)) (r : Gathered L)
    → r.links ≡ links → IsRoundOf o calendars least r old.dialer new.dialer old.nonces new.nonces → GivesAllBack (o.returned old.accepter) r.left (o.returned new.accepter)
    → (result : Result (Unit {0}) GateStatus)
    → MatchResult result (λ u. Takes taken now (round_lines calendars r.outcomes (stamped r.served)))
    (λ e. (e ≡ status.WriteFault) × sink × TakesPrefix taken now (round_lines calendars r.outcomes (stamped r.served)))
    → ServesOne o calendars least sink links old new taken now result
served_one o calendars least sink links old new taken now r is served gives (Ok tt) prints = printed r is served gives refl prints
served_one o calendars least sink links old new taken now r is served gives (Err e) prints = unprinted r is served gives (ap Err prints.0) prints.1 prints.2

module _ {A L D : Type 0} (o : Outside A L D) (calendars : List AddressParts) (least most : ℕ) (some : 1 ≤ most) (until : Option ℕ) (sink printing : Type 0) (rise : sink → printing)
    (first : Moment A D) (before : Option (List ℕ)) where
  pub steps_none : (new : Moment A D) (taken : Option (List ℕ)) (r : Option GateStatus) → Steps o calendars least most until printing first before new taken r → ((s : GateStatus) → r ≡ Some s → ⊥)
      → Going o calendars least most first new before taken
  steps_none new taken None steps none = steps
  steps_none new taken (Some s) steps none = absurd (none s refl)

  pub steps_some : (new : Moment A D) (taken : Option (List ℕ)) (r : Option GateStatus) (s : GateStatus) → Steps o calendars least most until printing first before new taken r → r ≡ Some s
      → Ended o calendars least most until printing first new before taken s
  steps_some new taken None s steps is = absurd cc
  steps_some new taken (Some t) s steps is = subst (Ended o calendars least most until printing first new before taken) (cc is) steps

  -- no link was accepted
  pub step_empty : (accepting : Accepting) (now : Moment A D) (taken : Option (List ℕ)) (a : A) → Going o calendars least most first now before taken → Accepts o calendars least most [] now.accepter a
      → (accepting ≡ Full → length {A = L} [] ≡ most) → (accepting ≡ Over → IsOver (o.coming a) until (o.accepted a)) → (accepting ≡ Fault → Rose (o.accept_faults now.accepter) (o.accept_faults a))
      → Steps o calendars least most until printing first before (record { accepter = a; dialer = now.dialer; nonces = now.nonces }) taken (status_of accepting)
  step_empty Full now taken a going accepts full ends rose = let none = full refl in absurd (omega (arith, none, some))
  step_empty Over now taken a going accepts full ends rose = over_now o calendars least most until printing first now now now.accepter before taken some going a accepts (ends refl)
  step_empty Fault now taken a going accepts full ends rose = fault_now o calendars least most until printing first now now now.accepter before taken some going a accepts (rose refl)

  module _ (now new : Moment A D) (between : A) (taken then_taken : Option (List ℕ)) (links : List L) (going : Going o calendars least most first now before taken)
      (accepts : Accepts o calendars least most links now.accepter between) (one : 1 ≤ length links) (few : length links ≤ most)
      (coming : o.coming new.accepter ≡ o.coming between) (accepted : o.accepted new.accepter ≡ o.accepted between) (faults : o.accept_faults new.accepter ≡ o.accept_faults between) where
    abbrev Served : Result (Unit {0}) GateStatus → Type 0
    Served result = ServesOne o calendars least sink links (record { accepter = between; dialer = now.dialer; nonces = now.nonces }) new taken then_taken result

    -- its lines were printed
    pub step_printed : (accepting : Accepting) (result : Result (Unit {0}) GateStatus) (u : Unit {0}) → Served result → result ≡ Ok u
        → (accepting ≡ Full → length links ≡ most) → (accepting ≡ Over → IsOver (o.coming between) until (o.accepted between))
        → (accepting ≡ Fault → Rose (o.accept_faults now.accepter) (o.accept_faults between)) → Steps o calendars least most until printing first before new then_taken (status_of accepting)
    step_printed accepting result u (unprinted r is served gives failed rose prints) ok full ends fault = let clash = sym ok ∙ failed in absurd cc
    step_printed accepting result u (lost left each gives failed same) ok full ends fault = let clash = sym ok ∙ failed in absurd cc
    step_printed Full result u (printed r is served gives done prints) ok full ends fault =
        going_more o calendars least most first now new between before taken then_taken going r (ap length is ∙ full refl)
        (subst (λ (xs : List L). Accepts o calendars least most xs now.accepter between) (sym is) accepts) (record { returned = gives; coming = coming; accepted = accepted; faults = faults }) served prints
    step_printed Over result u (printed r is served gives done prints) ok full ends fault =
        over_after o calendars least most until printing first now new between before taken some going links accepts one few r is
        (record { returned = gives; coming = coming; accepted = accepted; faults = faults }) served then_taken prints
        (subst (λ c. IsOver c until (o.accepted new.accepter)) (sym coming) (subst (λ (n : ℕ). IsOver (o.coming between) until n) (sym accepted) (ends refl)))
    step_printed Fault result u (printed r is served gives done prints) ok full ends fault =
        fault_after o calendars least most until printing first now new between before taken some going links accepts one few r is
        (record { returned = gives; coming = coming; accepted = accepted; faults = faults }) served then_taken prints
        (let later = going.passes.later in let rose = fault refl in omega (arith, later, rose, faults))

    -- they were not, or memory ran out
    pub step_failed : (result : Result (Unit {0}) GateStatus) (s : GateStatus) → Served result → result ≡ Err s → Ended o calendars least most until printing first new before then_taken s
    step_failed result s (printed r is served gives done prints) failed = let clash = sym failed ∙ done in absurd cc
    step_failed result s (unprinted r is served gives ended rose prints) failed =
        let same : status.WriteFault ≡ s = let both = sym ended ∙ failed in cc both in
        subst (Ended o calendars least most until printing first new before then_taken) same
        (unprinted_after o calendars least most until printing first now new between before taken some going links accepts one few r is
        (record { returned = gives; coming = coming; accepted = accepted; faults = faults }) served then_taken (rise rose) prints)
    step_failed result s (lost left each gives ended stays) failed =
        let same : status.OutOfMemory ≡ s = let both = sym ended ∙ failed in cc both in
        subst (Ended o calendars least most until printing first new before then_taken) same
        (subst (λ t. Ended o calendars least most until printing first new before t status.OutOfMemory) (sym stays)
        (lost_after o calendars least most until printing first now new between before taken some going links accepts one few left
        (record { returned = gives; coming = coming; accepted = accepted; faults = faults }) each))
