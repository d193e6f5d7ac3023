-- Distinct messages, each with a number: for the code.
use Rattle.std.specs.Prelude.{◌≡◌, ◌⊎◌, ℕ, ◌<◌, List, [], ◌∷◌, ◌++◌, length, Option, None, Some, IsSome}
use Rattle.std.specs.List.{slice_get}
use Rattle.std.specs.BTreeMap.{is_at}
use Rattle.std.specs.Map.{lookup}
use Rattle.std.specs.Ordering.{nat_cmp}
use Rattle.std.specs.Cmp.Lexicographic.{slice_cmp}
use Rattle.sha2.specs.Sha256.{sha256}

-- no message stands at two places
abbrev pub AreDistinct : List (List ℕ) → Type 0
AreDistinct items = (i j : ℕ) (m : List ℕ) → slice_get items i ≡ Some m → slice_get items j ≡ Some m → i ≡ j

-- what a map from digests has at a digest
abbrev pub number_at : List (List ℕ × ℕ) → List ℕ → Option ℕ
number_at by_digest digest = lookup (is_at (slice_cmp nat_cmp digest)) by_digest

-- The messages are distinct, and a map has a number at the digest of each.
pub record IsIndexed (items : List (List ℕ)) (by_digest : List (List ℕ × ℕ)) : Type 0 where
  pub distinct : AreDistinct items
  pub each : (i : ℕ) (m : List ℕ) → slice_get items i ≡ Some m → IsSome (number_at by_digest (sha256 m))

-- A message has a number: one that was given before, or the next one.
pub record IsNumbered (old new : List (List ℕ)) (m : List ℕ) (n : ℕ) : Type 0 where
  pub place : slice_get new n ≡ Some m
  pub grown : ((n < length old) × (new ≡ old)) ⊎ ((n ≡ length old) × (new ≡ old ++ m ∷ []))

-- the place of a message among these, where it stands there
abbrev pub IsPlaceOf : List (List ℕ) → List ℕ → Option ℕ → Type 0
IsPlaceOf items m (Some i) = slice_get items i ≡ Some m
IsPlaceOf items m None = (i : ℕ) → slice_get items i ≡ Some m → ⊥

-- The map has a number at this digest, and wherever it had one.
pub record IsNotedIn (old : List (List ℕ × ℕ)) (digest : List ℕ) (new : List (List ℕ × ℕ)) : Type 0 where
  pub there : IsSome (number_at new digest)
  pub stays : (k : List ℕ) → IsSome (number_at old k) → IsSome (number_at new k)
