-- Bytes that were drawn whole.
use Rattle.std.specs.Prelude.{◌≡◌, ℕ, List, length, take}
use Rattle.std.proofs.Common.{subst}
use Rattle.std.proofs.Math.Seq.{take-length}

-- All of a list of this length are taken.
pub all_taken : (n : ℕ) (l : List ℕ) → length l ≡ n → take n l ≡ l
all_taken n l is = subst (λ (m : ℕ). take m l ≡ l) is (take-length l)
