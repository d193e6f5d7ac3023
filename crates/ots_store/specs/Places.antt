-- What the search in a list of places rests on: the order of commitments and, among equal ones, of their places.
use Rattle.std.specs.Prelude.{◌≡◌, ◌≤◌, ◌<◌, ◌+◌, ◌-◌, ℕ, List, length, replicate, slice_index, slice_index_or, false}
use Rattle.std.specs.declared.cmp.Ordering.{Ordering}
use Rattle.std.specs.Cmp.Lexicographic.{slice_cmp}
use Rattle.std.specs.Ordering.{nat_cmp, is_gt, on, then_cmp}

-- what stands at a place that is none
abbrev pub nothing : List ℕ
nothing = replicate 44 0

-- a commitment and its place
abbrev pub key_at : List (List ℕ) → ℕ → List ℕ × ℕ
key_at all place = (slice_index_or all place nothing, place)

abbrev pub key_cmp : List ℕ × ℕ → List ℕ × ℕ → Ordering
key_cmp = then_cmp (on (λ (k : List ℕ × ℕ). k.0) (slice_cmp nat_cmp)) (on (λ (k : List ℕ × ℕ). k.1) nat_cmp)

abbrev pub IsWithin : ℕ → List ℕ → Type 0
IsWithin n places = (j : ℕ) → j < length places → slice_index places j < n

-- No place is after a later one.
abbrev pub Rises : List ℕ → List (List ℕ) → Type 0
Rises places all = (i j : ℕ) → i ≤ j → j < length places → is_gt
    (key_cmp (key_at all (slice_index places i)) (key_at all (slice_index places j))) ≡ false

-- So many places, each once.
pub record Are (n : ℕ) (places : List ℕ) : Type 0 where
  pub count : length places ≡ n
  pub within : IsWithin n places
  pub each : (p : ℕ) → p < n → (j : ℕ) × (j < length places) × (slice_index places j ≡ p)

-- The places of the first n of these commitments, in order.
pub record Indexes (n : ℕ) (places : List ℕ) (all : List (List ℕ)) : Type 0 where
  pub are : Are n places
  pub rises : Rises places all

-- ---- two parts that are merged

-- No place is after a later one, but one before `high` may be after one of the next `left`.
abbrev pub IsParted : ℕ → ℕ → List ℕ → List (List ℕ) → Type 0
IsParted high left places all = (i j : ℕ) → i ≤ j → j < length places → (i < high → high ≤ j → high + left ≤ j)
    → is_gt (key_cmp (key_at all (slice_index places i)) (key_at all (slice_index places j))) ≡ false

-- What stood from `low` up to `middle` and from there up to `high` is exchanged.
pub record Exchanged (low middle high : ℕ) (old new : List ℕ) : Type 0 where
  pub count : length new ≡ length old
  pub prefix : (i : ℕ) → i < low → slice_index new i ≡ slice_index old i
  pub first : (i : ℕ) → i + middle < high → slice_index new (low + i) ≡ slice_index old (middle + i)
  pub second : (i : ℕ) → i + low < middle → slice_index new (low + (high - middle) + i) ≡ slice_index old (low + i)
  pub back : (i : ℕ) → high ≤ i → slice_index new i ≡ slice_index old i
