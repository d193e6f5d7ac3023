-- How the text of a message is kept in place before it is written. It serves the writers' code.
use Rattle.std.specs.Prelude.{◌≡◌, ℕ, ◌≤◌, ◌⊎◌, List, length}
use Rattle.std.proofs.Common.{inl, inr, refl, ◌∙◌, arith}

-- So many bytes are kept at the start of a room of this size.
pub record HasRoom (size : ℕ) (bytes : List ℕ) (n : ℕ) : Type 0 where
  pub room : length bytes ≡ size
  pub fits : n ≤ size

-- A text of so many bytes grows, and a fault is counted only where it fills the room.
pub record FailsFull (room size size_after faults faults_after : ℕ) : Type 0 where
  pub grows : size ≤ size_after
  pub fails : (faults_after ≡ faults) ⊎ (room ≤ size_after)

pub FailsFull-refl : (room size faults : ℕ) → FailsFull room size size faults faults
FailsFull-refl room size faults = record { grows = omega arith; fails = inl refl }

pub FailsFull-trans : (room a b c k l m : ℕ) → FailsFull room a b k l → FailsFull room b c l m → FailsFull room a c k m
FailsFull-trans room a b c k l m first second = record {
  grows = omega (arith, first.grows, second.grows);
  fails = either first.fails second.fails;
}
  where
    either : (l ≡ k) ⊎ (room ≤ b) → (m ≡ l) ⊎ (room ≤ c) → (m ≡ k) ⊎ (room ≤ c)
    either (inl is) (inl same) = inl (same ∙ is)
    either (inr full) (inl same) = inr (omega (arith, full, second.grows))
    either before (inr full) = inr full
