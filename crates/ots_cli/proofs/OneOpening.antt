-- What is under the names determines which of them are opened.
use Rattle.std.proofs.Common.{◌≡◌, ◌⊎◌, inl, inr, ℕ, List, [], ◌∷◌, ◌++◌, Option, Some, refl, sym, ap, subst, ◌∙◌, arith}
use Rattle.ots_address.proofs.ListLemmas.{none_bad}
use Rattle.ots_checking.proofs.OneAnswer.{pins_or_not, table_or_not}
use Rattle.ots_client_endings.proofs.OneInput.{none_under, one_under, proof_or_not}
use Rattle.ots_client_endings.specs.InTurn.{OpensInTurn, at_absent, at_refused, broken_after, broken_off}
use Rattle.ots_client_inputs.specs.Headers.{RefusesTable}
use Rattle.ots_client_inputs.specs.Inputs.{AreAccepted, Input, IsAbsent, IsAccepted, IsRefused, calendars_of, headers_under, name_in, names_in, pins_under, proof_under, target_under}
use Rattle.ots_client_inputs.specs.List.{bad}
use Rattle.ots_client_inputs.specs.Pins.{RefusesPins}
use Rattle.ots_client_inputs.specs.Proof.{RefusesProof}
use Rattle.ots_client_inputs.specs.Target.{RefusesTarget}
use Rattle.ots_inputs.specs.Opened.{Opens}
use Rattle.ots_outside.specs.Shelf.{Names}

-- ---- one input

-- What is accepted or refused is there.
there : (names : Names) (i : Input) → IsAccepted (Some names) i ⊎ IsRefused (Some names) i → IsAbsent (Some names) i → ⊥
there names (calendars_of list) h none = absurd none
there names (proof_under name) (inl h) none = none_under names name h.0 none h.1
there names (proof_under name) (inr h) none = none_under names name h.0 none h.1
there names (headers_under file) (inl h) none = none_under names file.name h.0 none h.1
there names (headers_under file) (inr h) none = none_under names file.name h.0 none h.1
there names (pins_under name) (inl h) none = none_under names name h.0 none h.1
there names (pins_under name) (inr h) none = none_under names name h.0 none h.1
there names (target_under name) (inl h) none = none_under names name h.0 none h.1
there names (target_under name) (inr h) none = none_under names name h.0 none h.1

accepted_or_not : (names : Names) (i : Input) → IsAccepted (Some names) i → IsRefused (Some names) i → ⊥
accepted_or_not names (calendars_of list) (calendars, is) (s, bad place https wrong same) = none_bad list place https wrong is.good
accepted_or_not names (proof_under name) (b, at, (p, is)) (c, too, (s, r)) = proof_or_not b p s is (subst (λ (z : List ℕ). RefusesProof z s) (one_under names name c b too at) r)
accepted_or_not names (headers_under file) (b, at, (t, is)) (c, too, (s, r)) =
    table_or_not file.first b t s is (subst (λ (z : List ℕ). RefusesTable z s) (one_under names file.name c b too at) r)
accepted_or_not names (pins_under name) (b, at, (ps, is)) (c, too, (s, r)) = pins_or_not b ps s is (subst (λ (z : List ℕ). RefusesPins z s) (one_under names name c b too at) r)
accepted_or_not names (target_under name) (b, at, few) (c, too, (s, r)) =
    let many = (subst (λ (z : List ℕ). RefusesTarget z s) (one_under names name c b too at) r).0 in omega arith

-- ---- one after the other

abbrev IsOpened : Option Names → List Input → List (List ℕ) → Type 0
IsOpened told [] ns = ns ≡ []
IsOpened told (i ∷ inputs) ns = (IsAbsent told i × (ns ≡ [])) ⊎ (IsRefused told i × (ns ≡ name_in i ++ []))
    ⊎ (IsAccepted told i × (ms : List (List ℕ)) × IsOpened told inputs ms × (ns ≡ name_in i ++ ms))

module _ (told : Option Names) where
  all_opened : (inputs : List Input) → AreAccepted told inputs → IsOpened told inputs (names_in inputs)
  all_opened [] h = refl
  all_opened (i ∷ inputs) h = inr (inr (h.0, names_in inputs, all_opened inputs h.1, refl))

  absent_last : (earlier later : List Input) (i : Input) → AreAccepted told earlier → IsAbsent told i → IsOpened told (earlier ++ i ∷ later) (names_in earlier)
  absent_last [] later i h absent = inl (absent, refl)
  absent_last (x ∷ earlier) later i h absent = inr (inr (h.0, names_in earlier, absent_last earlier later i h.1 absent, refl))

  refused_last : (earlier later : List Input) (i : Input) → AreAccepted told earlier → IsRefused told i → IsOpened told (earlier ++ i ∷ later) (names_in (earlier ++ i ∷ []))
  refused_last [] later i h refused = inr (inl (refused, refl))
  refused_last (x ∷ earlier) later i h refused = inr (inr (h.0, names_in (earlier ++ i ∷ []), refused_last earlier later i h.1 refused, refl))

  opened_of : (inputs : List Input) (old new : Option (List (List ℕ))) → OpensInTurn told inputs ⊥ old new → (ns : List (List ℕ)) × IsOpened told inputs ns × Opens ns old new
  opened_of inputs old new (inl (accepted, opened)) = (names_in inputs, all_opened inputs accepted, opened)
  opened_of inputs old new (inr (at_absent earlier later i split accepted absent opened)) =
      (names_in earlier, subst (λ (z : List Input). IsOpened told z (names_in earlier)) (sym split) (absent_last earlier later i accepted absent), opened)
  opened_of inputs old new (inr (at_refused earlier later i split accepted refused opened)) =
      (names_in (earlier ++ i ∷ []), subst (λ (z : List Input). IsOpened told z (names_in (earlier ++ i ∷ []))) (sym split) (refused_last earlier later i accepted refused), opened)
  opened_of inputs old new (inr (broken_off earlier later split accepted broken opened)) = absurd broken
  opened_of inputs old new (inr (broken_after earlier later i split accepted broken opened)) = absurd broken

one_list : (names : Names) (inputs : List Input) (ns ms : List (List ℕ)) → IsOpened (Some names) inputs ns → IsOpened (Some names) inputs ms → ns ≡ ms
one_list names [] ns ms f g = f ∙ sym g
one_list names (i ∷ inputs) ns ms (inl (none, f)) (inl (none', g)) = f ∙ sym g
one_list names (i ∷ inputs) ns ms (inl (none, f)) (inr (inl (r, g))) = absurd (there names i (inr r) none)
one_list names (i ∷ inputs) ns ms (inl (none, f)) (inr (inr (a, k, is, g))) = absurd (there names i (inl a) none)
one_list names (i ∷ inputs) ns ms (inr (inl (r, f))) (inl (none, g)) = absurd (there names i (inr r) none)
one_list names (i ∷ inputs) ns ms (inr (inl (r, f))) (inr (inl (r', g))) = f ∙ sym g
one_list names (i ∷ inputs) ns ms (inr (inl (r, f))) (inr (inr (a, k, is, g))) = absurd (accepted_or_not names i a r)
one_list names (i ∷ inputs) ns ms (inr (inr (a, k, is, f))) (inl (none, g)) = absurd (there names i (inl a) none)
one_list names (i ∷ inputs) ns ms (inr (inr (a, k, is, f))) (inr (inl (r, g))) = absurd (accepted_or_not names i a r)
one_list names (i ∷ inputs) ns ms (inr (inr (a, k, is, f))) (inr (inr (a', l, too, g))) =
    f ∙ ap (λ (z : List (List ℕ)). name_in i ++ z) (one_list names inputs k l is too) ∙ sym g

pub one_opening : (names : Names) (inputs : List Input) (old : List (List ℕ)) (new other : Option (List (List ℕ))) → OpensInTurn (Some names) inputs ⊥ (Some old) new
    → OpensInTurn (Some names) inputs ⊥ (Some old) other → new ≡ other
one_opening names inputs old new other f g =
    let h = opened_of (Some names) inputs (Some old) new f in
    let k = opened_of (Some names) inputs (Some old) other g in
    h.2 ∙ ap (λ (z : List (List ℕ)). Some (old ++ z)) (one_list names inputs h.0 k.0 h.1 k.1) ∙ sym k.2
