-- A list whose last items are not acknowledged yet.
use Rattle.std.specs.Prelude.{◌≡◌, ℕ, List, [], ◌∷◌, ◌++◌}

pub record MarkedTold (T : Type 0) : Type 0 where
  pub kept : List T
  pub flight : List T
  -- how many items more can be added without taking memory
  pub spare : ℕ

-- An item more is in flight.
pub record IsPushed {T : Type 0} (old new : MarkedTold T) (item : T) : Type 0 where
  pub kept : new.kept ≡ old.kept
  pub flight : new.flight ≡ old.flight ++ item ∷ []

-- The items are the same, though more memory may be spare.
pub record IsSame {T : Type 0} (old new : MarkedTold T) : Type 0 where
  pub kept : new.kept ≡ old.kept
  pub flight : new.flight ≡ old.flight
