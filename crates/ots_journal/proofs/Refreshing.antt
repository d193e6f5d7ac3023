-- What a journal keeps when the gate of the group in flight was read.
use Rattle.std.proofs.Common.{◌≡◌, ◌≢◌, ℕ, ◌+◌, ◌<◌, true, false, List, [], ◌∷◌, ◌++◌, length, get_or, refl, sym, ◌∙◌, ap, subst, arith, Option, Some}
use Rattle.ots_base.specs.Told.{IfTold}
use Rattle.ots_journal.specs.declared.entry.Entry.{Entry}
use Rattle.ots_journal.specs.Image.{open_gate, prefix}
use Rattle.ots_journal.specs.Journal.{Keeps, size_with}
use Rattle.ots_journal.proofs.Gates.{room_after, gate_is}
use Rattle.ots_journal.proofs.Groups.{entries_push, fit_push, length-prefix_push}
use Rattle.ots_journal.proofs.Standing.{opened_whole}

pub told_at : (told : Option (List ℕ)) (P : List ℕ → Type 0) (b : List ℕ) → told ≡ Some b → IfTold told P → P b
told_at told P b is holds = let at : IfTold (Some b) P = subst (λ (t : Option (List ℕ)). IfTold t P) is holds in at

module _ (images : List ℕ → Type 0) (entries flight : List Entry) (gate : ℕ) (k : Keeps images entries flight false gate) where
  pub gate_there : (b : List ℕ) → images b → gate < length b
  gate_there b image = let at = k.each b image in omega (arith, room_after (prefix k.groups) at.gate at.rest b at.whole, k.place)

  gate_read : (b : List ℕ) (image : images b) → get_or b gate 0 ≡ (k.each b image).gate
  gate_read b image =
      let at = k.each b image in
      ap (λ (n : ℕ). get_or b n 0) k.place ∙ gate_is (prefix k.groups) at.gate at.rest b at.whole

  pub keeps_opened : (later : List ℕ → Type 0) (all none : List Entry) (next : ℕ) → all ≡ entries ++ flight → none ≡ [] → next + 1 ≡ size_with gate flight
      → ((c : List ℕ) → later c → images c) → ((c : List ℕ) → later c → get_or c gate 0 ≡ open_gate) → Keeps later all none true next
  keeps_opened later all none next is_all is_none is_next fewer opened = record {
    groups = k.groups ++ flight ∷ [];
    fit = fit_push k.groups flight k.fit (k.flight_fits refl);
    joined = is_all ∙ ap (λ (l : List Entry). l ++ flight) k.joined ∙ sym (entries_push k.groups flight);
    place = omega (arith, is_next, k.place, length-prefix_push k.groups flight);
    none_in_flight = λ _. is_none;
    flight_fits = λ is. absurd (cc);
    each = λ c image.
        let at = k.each c (fewer c image) in
        let is : at.gate ≡ open_gate = sym (gate_read c (fewer c image)) ∙ opened c image in
        let o = at.opened is in
        record { gate = o.0; rest = o.1; whole = opened_whole k.groups flight at.gate o.0 at.rest o.1 c at.whole is o.3; closed = λ _. o.2; opened = λ again. absurd (o.2 again) };
  }

  pub keeps_closed : (later : List ℕ → Type 0) (all none : List Entry) → all ≡ entries → none ≡ []
      → ((c : List ℕ) → later c → images c) → ((c : List ℕ) → later c → get_or c gate 0 ≢ open_gate) → Keeps later all none true gate
  keeps_closed later all none is_all is_none fewer closed = record {
    groups = k.groups;
    fit = k.fit;
    joined = is_all ∙ k.joined;
    place = k.place;
    none_in_flight = λ _. is_none;
    flight_fits = λ is. absurd (cc);
    each = λ c image.
        let at = k.each c (fewer c image) in
        let ne : at.gate ≢ open_gate = λ is. closed c image (gate_read c (fewer c image) ∙ is) in
        record { gate = at.gate; rest = at.rest; whole = at.whole; closed = λ _. ne; opened = λ is. absurd (ne is) };
  }

  -- a failed call may leave fewer images
  pub keeps_fewer : (later : List ℕ → Type 0) → ((c : List ℕ) → later c → images c) → Keeps later entries flight false gate
  keeps_fewer later fewer = record {
    groups = k.groups;
    fit = k.fit;
    joined = k.joined;
    place = k.place;
    none_in_flight = k.none_in_flight;
    flight_fits = k.flight_fits;
    each = λ c image. k.each c (fewer c image);
  }
