-- The first bytes of a number that goes on.
use Rattle.std.specs.Prelude.{◌≡◌, ◌<◌, ◌≤◌, ℕ, zero, suc, ◌+◌, ◌/◌, ◌%◌, ◌^◌, List, [], ◌∷◌}

-- k bytes of seven bits each, from the lowest of v on, each of which says that more follow
abbrev pub continued : ℕ → ℕ → List ℕ
continued zero v = []
continued (suc k) v = (128 + v % 128) ∷ continued k (v / 128)

-- k bytes of value v, and what the next seven bits count
pub record IsPartial (v scale k : ℕ) : Type 0 where
  pub early : k ≤ 9
  pub scaled : scale ≡ 128 ^ k
  pub below : v < scale
