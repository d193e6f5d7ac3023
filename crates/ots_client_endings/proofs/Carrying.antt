-- Acts that are carried out.
use Rattle.std.proofs.Common.{◌≡◌, inl, inr, List, [], ◌∷◌, ◌++◌, ℕ, Option, None, refl, subst, arith}
use Rattle.std.specs.Prelude.{Err}
use Rattle.ots_base.specs.Cause.{Rose}
use Rattle.ots_detached.specs.File.{file_of}
use Rattle.ots_outside.specs.Shelf.{Names, ShelfFaults, ShelfTold}
use Rattle.ots_outside.specs.Streams.{Takes, TakesPrefix}
use Rattle.ots_outside.specs.Written.{with_name}
use Rattle.ots_client_text.specs.declared.status.Status.{Status}
use Rattle.ots_client_text.specs.declared.status.Status.TheVariants.{WriteFault}
use Rattle.ots_client_endings.specs.CarriedOut.{Carries, CarriesOut, Does, MakesThen, PrintsLast}
use Rattle.ots_client_endings.specs.Ending.{Act, makes, makes_stamp, prints}
use Rattle.ots_inputs.specs.Under.{IsUnder}
use Rattle.ots_outputs.specs.Made.{Outputs}
use Rattle.ots_outputs.specs.declared.output.OutputError.{OutputError}

pub last_text : (writing printing : Type 0) (status : Status) (text : List ℕ) (names : Option Names) (taken now : Option (List ℕ)) (r : Status)
    → PrintsLast printing status text taken now r → CarriesOut writing printing status (prints text ∷ []) names names taken now r
last_text writing printing status text names taken now r (inl whole) = inl (now, whole.0, (refl, refl, whole.1))
last_text writing printing status text names taken now r (inr prefix) = inr (refl, prefix.0, prefix.1, prefix.2)

-- A file was made, and then a text was the last.
pub made_then : (writing printing : Type 0) (status : Status) (name bytes text : List ℕ) (old new : Option Names) (taken now : Option (List ℕ)) (r : Status) → IsUnder old name None
    → new ≡ with_name name bytes old → (last : List ℕ) × (last ≡ text) × PrintsLast printing status last taken now r
    → CarriesOut writing printing status (makes name bytes ∷ prints text ∷ []) old new taken now r
made_then writing printing status name bytes text old new taken now r absent same (last, is, printed) =
    inl (
      absent,
      subst (λ (z : Option Names). CarriesOut writing printing status (prints text ∷ []) z new taken now r) same
          (subst (λ (z : List ℕ). CarriesOut writing printing status (prints z ∷ []) new new taken now r) is (last_text writing printing status last new taken now r printed)),
    )

-- what an error says of the names
pub as_said : (name file : List ℕ) (old new : Option Names) (e f : OutputError) → e ≡ f → Outputs name file old new (Err e) → Outputs name file old new (Err f)
as_said name file old new e f is h = subst (λ (z : OutputError). Outputs name file old new (Err z)) is h

-- ---- one act after another

-- What fails in a part fails in the whole.
last_later : (P Q : Type 0) → (P → Q) → (status : Status) (text : List ℕ) (taken now : Option (List ℕ)) (r : Status)
    → PrintsLast P status text taken now r → PrintsLast Q status text taken now r
last_later P Q f status text taken now r (inl whole) = inl whole
last_later P Q f status text taken now r (inr prefix) = inr (f prefix.0, prefix.1, prefix.2)

making_later : (W V P Q : Type 0) → (W → V) → (P → Q) → (name bytes : List ℕ) (goes_on goes_later : Option Names → Type 0) (old new : Option Names)
    (taken now : Option (List ℕ)) (r : Status) → ((mid : Option Names) → goes_on mid → goes_later mid) → MakesThen W P name bytes goes_on old new taken now r
    → MakesThen V Q name bytes goes_later old new taken now r
making_later W V P Q w f name bytes goes_on goes_later old new taken now r next (inl h) = inl (h.0, next _ h.1)
making_later W V P Q w f name bytes goes_on goes_later old new taken now r next (inr (inl h)) = inr (inl (h.0, h.1, last_later P Q f _ _ taken now r h.2))
making_later W V P Q w f name bytes goes_on goes_later old new taken now r next (inr (inr (inl h))) =
    inr (inr (inl (w h.0, h.1, h.2, last_later P Q f _ _ taken now r h.3)))
making_later W V P Q w f name bytes goes_on goes_later old new taken now r next (inr (inr (inr h))) = inr (inr (inr h))

pub carries_later : (W V P Q : Type 0) → (W → V) → (P → Q) → (status : Status) (acts : List Act) (old new : Option Names) (taken now : Option (List ℕ)) (r : Status)
    → CarriesOut W P status acts old new taken now r → CarriesOut V Q status acts old new taken now r
carries_later W V P Q w f status [] old new taken now r h = h
carries_later W V P Q w f status (prints text ∷ acts) old new taken now r (inl h) = inl (h.0, h.1, carries_later W V P Q w f status acts old new h.0 now r h.2)
carries_later W V P Q w f status (prints text ∷ acts) old new taken now r (inr h) = inr (h.0, f h.1, h.2, h.3)
carries_later W V P Q w f status (makes name bytes ∷ acts) old new taken now r h =
    making_later W V P Q w f name bytes _ _ old new taken now r (λ mid k. carries_later W V P Q w f status acts mid new taken now r k) h
carries_later W V P Q w f status (makes_stamp targets trees i name ∷ acts) old new taken now r (inl (p, stamp, file, h)) =
    inl (p, stamp, file, making_later W V P Q w f name (file_of p) _ _ old new taken now r (λ mid k. carries_later W V P Q w f status acts mid new taken now r k) h)
carries_later W V P Q w f status (makes_stamp targets trees i name ∷ acts) old new taken now r (inr (inl (p, stamp, long, same, last))) =
    inr (inl (p, stamp, long, same, last_later P Q f _ _ taken now r last))
carries_later W V P Q w f status (makes_stamp targets trees i name ∷ acts) old new taken now r (inr (inr none)) = inr (inr none)

-- A text was printed, and then acts were carried out.
pub text_then : (P Q : Type 0) → (P → Q) → (status : Status) (text : List ℕ) (acts : List Act) (old new : ShelfTold) (before now : ShelfFaults) (taken mid taken_now : Option (List ℕ))
    (r : Status) → Takes taken mid text → Carries status acts old new before now P mid taken_now r → Carries status (prints text ∷ acts) old new before now Q taken taken_now r
text_then P Q f status text acts old new before now taken mid taken_now r whole h = record {
  out = inl (mid, whole, carries_later (Rose before.writing now.writing) (Rose before.writing now.writing) P Q (λ rose. rose) f status acts old.names new.names mid taken_now r h.out);
  opened = h.opened;
  slots = h.slots;
  short = h.short;
  counts = h.counts;
  later = h.later;
}

-- A text was not printed whole.
pub text_lost : (printing : Type 0) (status : Status) (text : List ℕ) (acts : List Act) (told : ShelfTold) (faults : ShelfFaults) (taken now : Option (List ℕ))
    → printing → TakesPrefix taken now text → Carries status (prints text ∷ acts) told told faults faults printing taken now WriteFault
text_lost printing status text acts told faults taken now failed prefix = record {
  out = inr (refl, failed, prefix, refl);
  opened = refl;
  slots = λ k. refl;
  short = λ enough. refl;
  counts = record { opening = refl; reading = refl };
  later = omega arith;
}

-- ---- acts that are carried out, and more after them

pub does_then : (writing printing : Type 0) (status : Status) (acts more : List Act) (old mid new : Option Names) (taken between now : Option (List ℕ)) (r : Status)
    → Does acts old mid taken between → CarriesOut writing printing status more mid new between now r → CarriesOut writing printing status (acts ++ more) old new taken now r
does_then writing printing status [] more old mid new taken between now r does h =
    subst (λ (z : Option Names). CarriesOut writing printing status more z new taken now r) does.0
    (subst (λ (z : Option (List ℕ)). CarriesOut writing printing status more mid new z now r) does.1 h)
does_then writing printing status (prints text ∷ acts) more old mid new taken between now r does h =
    inl (does.0, does.1, does_then writing printing status acts more old mid new does.0 between now r does.2 h)
does_then writing printing status (makes name bytes ∷ acts) more old mid new taken between now r does h =
    inl (does.0, does_then writing printing status acts more _ mid new taken between now r does.1 h)
does_then writing printing status (makes_stamp targets trees i name ∷ acts) more old mid new taken between now r does h =
    inl (does.0, does.1, does.2, inl (does.3, does_then writing printing status acts more _ mid new taken between now r does.4 h))

pub does_more : (acts more : List Act) (old mid new : Option Names) (taken between now : Option (List ℕ)) → Does acts old mid taken between → Does more mid new between now
    → Does (acts ++ more) old new taken now
does_more [] more old mid new taken between now does h =
    subst (λ (z : Option Names). Does more z new taken now) does.0 (subst (λ (z : Option (List ℕ)). Does more mid new z now) does.1 h)
does_more (prints text ∷ acts) more old mid new taken between now does h = (does.0, does.1, does_more acts more old mid new does.0 between now does.2 h)
does_more (makes name bytes ∷ acts) more old mid new taken between now does h = (does.0, does_more acts more _ mid new taken between now does.1 h)
does_more (makes_stamp targets trees i name ∷ acts) more old mid new taken between now does h =
    (does.0, does.1, does.2, does.3, does_more acts more _ mid new taken between now does.4 h)
