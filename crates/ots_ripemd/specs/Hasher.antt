-- What a hasher keeps of the bytes that it was fed.
use Rattle.std.specs.Prelude.{◌≡◌, ℕ, ◌*◌, ◌/◌, ◌%◌, ◌^◌, ◌<◌, List, length, take, drop}
use Rattle.ots_ripemd.specs.Ripemd160.{chained}
use Rattle.ots_ripemd.specs.declared.block.Words.{Words}

-- the bytes after the whole blocks
abbrev pub rest : List ℕ → List ℕ
rest bytes = drop (64 * (length bytes / 64)) bytes

-- the chaining words have taken in the whole blocks, and the bytes after them stand first in the
-- block that is being filled
pub record Keeps (h : Words) (block : List ℕ) (count : ℕ) (fed : List ℕ) : Type 0 where
  pub counted : count ≡ length fed
  pub few : count < 2 ^ 61
  pub taken_in : h ≡ chained fed
  pub waiting : take (count % 64) block ≡ rest fed
