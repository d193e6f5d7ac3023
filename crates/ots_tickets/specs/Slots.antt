-- Lists from which items are gone while the others stay where they are. It serves the code alone.
use Rattle.std.specs.Prelude.{◌≡◌, false, List, [], ◌∷◌, if◌then◌else◌}
use Rattle.ots_tickets.specs.declared.slots.Slot.{Slot}

-- the items that are there
abbrev pub present : {A : Type 0} → List (Slot A) → List A
present [] = []
present (slot ∷ slots) = if slot.is_gone then present slots else slot.item ∷ present slots

-- An item that is there, of which P holds.
pub record IsHere {A : Type 0} (P : A → Type 0) (slot : Slot A) : Type 0 where
  pub here : slot.is_gone ≡ false
  pub is : P slot.item
