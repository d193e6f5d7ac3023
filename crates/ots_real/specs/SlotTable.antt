-- Slots that are kept as a list.
use Rattle.std.specs.Prelude.{ℕ, zero, suc, List, [], ◌∷◌}

-- What the slot of this number is, where `view` reads an item of the list. A slot past its end is `none`.
abbrev pub slot_at : {A B : Type 0} → B → (A → B) → List A → ℕ → B
slot_at none view [] k = none
slot_at none view (x ∷ xs) zero = view x
slot_at none view (x ∷ xs) (suc k) = slot_at none view xs k
