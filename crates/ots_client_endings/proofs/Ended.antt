-- What a run that carried out acts over told names ended with.
use Rattle.std.proofs.Common.{◌≡◌, ◌⊎◌, inl, inr, ℕ, List, [], ◌∷◌, Option, Some, None, sym, subst}
use Rattle.std.specs.Prelude.{IsSome}
use Rattle.std.specs.FinMap as map
use Rattle.std.proofs.lemmas.Bool.{false≢true}
use Rattle.ots_base.specs.Cause.{Rose}
use Rattle.ots_client_endings.specs.CarriedOut.{CarriesOut, MakesThen, PrintsLast}
use Rattle.ots_client_endings.specs.Ending.{Act, prints}
use Rattle.ots_client_endings.specs.Outcome.{Excused}
use Rattle.ots_client_endings.specs.Runs.{Moment}
use Rattle.ots_client_text.specs.Refusal.{refusal_text}
use Rattle.ots_client_text.specs.declared.status.Status.{Status}
use Rattle.ots_client_text.specs.declared.status.Status.TheVariants.{OutOfMemory, ReadFault, WriteFault}
use Rattle.ots_inputs.specs.Opened.{StopsAt, not_opened, opened_last}
use Rattle.ots_outside.specs.Shelf.{Names}

is_there : (o : Option (List ℕ)) → IsSome o → o ≡ None → ⊥
is_there None some none = absurd (false≢true some)
is_there (Some b) some none = cc

-- Acts were carried out, over the names and what the sink had taken before.
abbrev pub Carried : Moment → Moment → Status → Status → List Act → Option Names → Option (List ℕ) → Type 0
Carried old new r s acts names taken =
    CarriesOut (Rose old.faults.writing new.faults.writing) (Rose old.lost new.lost) s acts names new.shelf.names taken new.taken r

-- What is said of a run follows where it is excused.
module _ (old new : Moment) (r : Status) {Said : Type 0} (excused : Excused old new r → Said) where
  pub ran_short : r ≡ OutOfMemory → Said
  ran_short is = excused (subst (Excused old new) (sym is) tt)

  pub not_written : Rose old.faults.writing new.faults.writing ⊎ Rose old.lost new.lost → r ≡ WriteFault → Said
  not_written rose is = excused (subst (Excused old new) (sym is) rose)

  pub not_read : {reads : List (List ℕ)} {name : List ℕ} → StopsAt reads old.shelf.opened new.shelf.opened old.faults new.faults name → r ≡ ReadFault → Said
  not_read (not_opened earlier later split opened rose) is = excused (subst (Excused old new) (sym is) (inl rose))
  not_read (opened_last earlier later split opened rose) is = excused (subst (Excused old new) (sym is) (inr rose))

  pub last_told : (s : Status) (text : List ℕ) (taken : Option (List ℕ)) → (r ≡ s → Said) → PrintsLast (Rose old.lost new.lost) s text taken new.taken r → Said
  last_told s text taken f (inl whole) = f whole.1
  last_told s text taken f (inr (lost, prefix, is)) = not_written (inr lost) is

  pub told_first : (s : Status) (text : List ℕ) (acts : List Act) (names : Option Names) (taken : Option (List ℕ)) → ((mid : Option (List ℕ)) → Carried old new r s acts names mid → Said)
      → Carried old new r s (prints text ∷ acts) names taken → Said
  told_first s text acts names taken f (inl (mid, whole, h)) = f mid h
  told_first s text acts names taken f (inr (same, lost, prefix, is)) = not_written (inr lost) is

  pub told_only : (s : Status) (text : List ℕ) (names : Option Names) (taken : Option (List ℕ)) → (r ≡ s → Said) → Carried old new r s (prints text ∷ []) names taken → Said
  told_only s text names taken f h = told_first s text [] names taken (λ mid k. f k.2) h

  -- a file whose name is free
  pub made_first : (name bytes : List ℕ) (goes_on : Option Names → Type 0) (names : Names) (taken : Option (List ℕ)) → map.get names name ≡ None
      → (goes_on (Some (map.insert names name bytes)) → Said)
      → MakesThen (Rose old.faults.writing new.faults.writing) (Rose old.lost new.lost) name bytes goes_on (Some names) new.shelf.names taken new.taken r → Said
  made_first name bytes goes_on names taken absent f (inl h) = f h.1
  made_first name bytes goes_on names taken absent f (inr (inl h)) = absurd (is_there (map.get names name) h.0 absent)
  made_first name bytes goes_on names taken absent f (inr (inr (inl (wrote, under, left, last)))) =
      last_told WriteFault (refusal_text name WriteFault) taken (λ is. not_written (inl wrote) is) last
  made_first name bytes goes_on names taken absent f (inr (inr (inr (same, kept, ran)))) = ran_short ran
