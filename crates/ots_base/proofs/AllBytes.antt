-- Elements that are below 256 wherever one looks.
use Rattle.std.proofs.Common.{ℕ, ◌<◌, List, [], ◌∷◌, suc, get_or}
use Rattle.std.specs.List.{AllByRecursion}

pub all_bytes : (bytes : List ℕ) → ((k : ℕ) → get_or bytes k 0 < 256) → AllByRecursion (λ b. b < 256) bytes
all_bytes [] below = tt
all_bytes (b ∷ bs) below = (below 0, all_bytes bs (λ k. below (suc k)))
