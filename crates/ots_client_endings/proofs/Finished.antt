-- Acts that were carried out end a run.
use Rattle.std.proofs.Common.{◌≤◌, inl, inr, ℕ, List, [], ◌∷◌, Option, refl, arith}
use Rattle.ots_base.specs.Cause.{Rose}
use Rattle.ots_client_endings.proofs.Carrying.{last_text}
use Rattle.ots_client_endings.specs.CarriedOut.{Carries, CarriesOut, PrintsBoth}
use Rattle.ots_client_endings.specs.Ending.{Act, Ending, prints}
use Rattle.ots_client_endings.specs.Runs.{Finishes, Moment}
use Rattle.ots_client_text.specs.declared.status.Status.{Status}
use Rattle.ots_outside.specs.Shelf.{Names, ShelfFaults, ShelfTold}

abbrev pub ending : Status → List Act → Ending
ending s acts = record { status = s; acts = acts }

abbrev moment : ShelfTold → ShelfFaults → Option (List ℕ) → ℕ → Moment
moment shelf faults taken lost = record { shelf = shelf; faults = faults; taken = taken; lost = lost }

pub acts_finish : (P : Ending → Type 0) (s : Status) (acts : List Act) {old new : ShelfTold} {before now : ShelfFaults} {taken taken_now : Option (List ℕ)} {lost lost_now : ℕ} {r : Status}
    → P (ending s acts) → lost ≤ lost_now → Carries s acts old new before now (Rose lost lost_now) taken taken_now r
    → Finishes P (moment old before taken lost) (moment new now taken_now lost_now) r
acts_finish P s acts is later h = record {
  ending = ending s acts;
  is = is;
  out = h.out;
  opened = h.opened;
  slots = h.slots;
  short = h.short;
  counts = h.counts;
  writing = h.later;
  lost = later;
}

both : (writing printing : Type 0) (s : Status) (first last : List ℕ) (names : Option Names) (taken now : Option (List ℕ)) (r : Status) → PrintsBoth printing s first last taken now r
    → CarriesOut writing printing s (prints first ∷ prints last ∷ []) names names taken now r
both writing printing s first last names taken now r (inl (mid, whole, h)) = inl (mid, whole, last_text writing printing s last names mid now r h)
both writing printing s first last names taken now r (inr (failed, prefix, is)) = inr (refl, failed, prefix, is)

-- A text was printed, and then another.
pub both_finish : (P : Ending → Type 0) (IsFirst : List ℕ → Type 0) (s : Status) (last : List ℕ) (shelf : ShelfTold) (faults : ShelfFaults) {taken now : Option (List ℕ)} {lost lost_now : ℕ} {r : Status}
    → ((bytes : List ℕ) → IsFirst bytes → P (ending s (prints bytes ∷ prints last ∷ []))) → lost ≤ lost_now
    → (bytes : List ℕ) × IsFirst bytes × PrintsBoth (Rose lost lost_now) s bytes last taken now r
    → Finishes P (moment shelf faults taken lost) (moment shelf faults now lost_now) r
both_finish P IsFirst s last shelf faults {taken} {now} {lost} {lost_now} {r} is later (bytes, first, h) = record {
  ending = ending s (prints bytes ∷ prints last ∷ []);
  is = is bytes first;
  out = both (Rose faults.writing faults.writing) (Rose lost lost_now) s bytes last shelf.names taken now r h;
  opened = refl;
  slots = λ k. refl;
  short = λ enough. refl;
  counts = record { opening = refl; reading = refl };
  writing = omega arith;
  lost = later;
}
