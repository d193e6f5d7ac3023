-- Which names were opened, input after input.
use Rattle.std.proofs.Common.{◌≡◌, inl, inr, ℕ, List, [], ◌∷◌, ◌++◌, Option, refl, sym, ap, subst, ◌∙◌, append_assoc}
use Rattle.std.proofs.lemmas.List.Concat.{flat_map-append}
use Rattle.ots_client_endings.specs.InTurn.{OpensInTurn, StopsInTurn, at_absent, at_refused, broken_after, broken_off}
use Rattle.ots_client_inputs.specs.Inputs.{AreAccepted, Input, name_in, names_in}
use Rattle.ots_inputs.specs.Opened.{Opens}
use Rattle.ots_inputs.proofs.Opened.{both, none_opened}
use Rattle.ots_outside.specs.Shelf.{Names}

abbrev Told : Type 0
Told = Option (List (List ℕ))

pub names_then : (xs ys : List Input) → names_in xs ++ names_in ys ≡ names_in (xs ++ ys)
names_then xs ys = sym (flat_map-append name_in xs ys)

pub accepted_then : (told : Option Names) (xs ys : List Input) → AreAccepted told xs → AreAccepted told ys → AreAccepted told (xs ++ ys)
accepted_then told [] ys f g = g
accepted_then told (x ∷ xs) ys f g = (f.0, accepted_then told xs ys f.1 g)

pub opened_then : (xs ys : List Input) (old mid new : Told) → Opens (names_in xs) old mid → Opens (names_in ys) mid new → Opens (names_in (xs ++ ys)) old new
opened_then xs ys old mid new first then = subst (λ (z : List (List ℕ)). Opens z old new) (names_then xs ys) (both (names_in xs) (names_in ys) old mid new first then)

split_later : (xs ys earlier later : List Input) (i : Input) → ys ≡ earlier ++ i ∷ later → xs ++ ys ≡ (xs ++ earlier) ++ i ∷ later
split_later xs ys earlier later i split = ap (λ (z : List Input). xs ++ z) split ∙ sym (append_assoc xs earlier (i ∷ later))

one_more : (xs earlier : List Input) (i : Input) (old mid new : Told) → Opens (names_in xs) old mid → Opens (names_in (earlier ++ i ∷ [])) mid new → Opens (names_in ((xs ++ earlier) ++ i ∷ [])) old new
one_more xs earlier i old mid new opened then =
    subst (λ (z : List Input). Opens (names_in z) old new) (sym (append_assoc xs earlier (i ∷ []))) (opened_then xs (earlier ++ i ∷ []) old mid new opened then)

-- Inputs were read, and then reading stopped at one of others.
module _ {told : Option Names} {broken : Type 0} {old mid new : Told} (xs ys : List Input) (accepted : AreAccepted told xs) (opened : Opens (names_in xs) old mid) where
  pub turn_later : StopsInTurn told ys broken mid new → StopsInTurn told (xs ++ ys) broken old new
  turn_later (at_absent earlier later i split before absent then) =
      at_absent (xs ++ earlier) later i (split_later xs ys earlier later i split) (accepted_then told xs earlier accepted before) absent (opened_then xs earlier old mid new opened then)
  turn_later (at_refused earlier later i split before refused then) =
      at_refused (xs ++ earlier) later i (split_later xs ys earlier later i split) (accepted_then told xs earlier accepted before) refused (one_more xs earlier i old mid new opened then)
  turn_later (broken_off earlier later split before broke then) =
      broken_off (xs ++ earlier) later (ap (λ (z : List Input). xs ++ z) split ∙ sym (append_assoc xs earlier later)) (accepted_then told xs earlier accepted before) broke
      (opened_then xs earlier old mid new opened then)
  turn_later (broken_after earlier later i split before broke then) =
      broken_after (xs ++ earlier) later i (split_later xs ys earlier later i split) (accepted_then told xs earlier accepted before) broke (one_more xs earlier i old mid new opened then)

module _ {told : Option Names} {old new : Told} where
  -- Reading stopped at one of more inputs.
  pub turn_before : {broken : Type 0} (xs rest : List Input) → StopsInTurn told xs broken old new → StopsInTurn told (xs ++ rest) broken old new
  turn_before xs rest (at_absent earlier later i split before absent then) =
      at_absent earlier (later ++ rest) i (ap (λ (z : List Input). z ++ rest) split ∙ append_assoc earlier (i ∷ later) rest) before absent then
  turn_before xs rest (at_refused earlier later i split before refused then) =
      at_refused earlier (later ++ rest) i (ap (λ (z : List Input). z ++ rest) split ∙ append_assoc earlier (i ∷ later) rest) before refused then
  turn_before xs rest (broken_off earlier later split before broke then) =
      broken_off earlier (later ++ rest) (ap (λ (z : List Input). z ++ rest) split ∙ append_assoc earlier later rest) before broke then
  turn_before xs rest (broken_after earlier later i split before broke then) =
      broken_after earlier (later ++ rest) i (ap (λ (z : List Input). z ++ rest) split ∙ append_assoc earlier (i ∷ later) rest) before broke then

  -- It was broken off for another reason.
  pub turn_as : {inputs : List Input} (P Q : Type 0) → (P → Q) → StopsInTurn told inputs P old new → StopsInTurn told inputs Q old new
  turn_as P Q f (at_absent earlier later i split before absent then) = at_absent earlier later i split before absent then
  turn_as P Q f (at_refused earlier later i split before refused then) = at_refused earlier later i split before refused then
  turn_as P Q f (broken_off earlier later split before broke then) = broken_off earlier later split before (f broke) then
  turn_as P Q f (broken_after earlier later i split before broke then) = broken_after earlier later i split before (f broke) then

  pub turns_as : {inputs : List Input} (P Q : Type 0) → (P → Q) → OpensInTurn told inputs P old new → OpensInTurn told inputs Q old new
  turns_as P Q f (inl all) = inl all
  turns_as P Q f (inr stops) = inr (turn_as P Q f stops)

-- Nothing was opened yet.
pub nothing_yet : {told : Option Names} (broken : Type 0) (inputs : List Input) (old : Told) → broken → OpensInTurn told inputs broken old old
nothing_yet broken inputs old broke = inr (broken_off [] inputs refl tt broke (none_opened old))
