-- For the code alone: which roots are worth looking for.
use Rattle.std.specs.Prelude.{◌≡◌, ◌<◌, ℕ, Bool, false, List, length, slice_index_or}
use Rattle.memchr.specs.Find.{OccursAt}
use Rattle.ots_block.specs.Block.{Contents}
use Rattle.ots_anchor.specs.Find.{form_of, root_of}

-- A root of which this says no stands nowhere in the bytes.
pub record IsStanding (bytes : List ℕ) (roots : List (List ℕ)) (standing : List Bool) : Type 0 where
  pub count : length standing ≡ length roots
  pub nowhere : (i : ℕ) → i < length roots → slice_index_or standing i false ≡ false → (p : ℕ)
      → ¬ OccursAt bytes (root_of roots i) p

-- It stands in no transaction.
pub record AreStanding (c : Contents) (roots : List (List ℕ)) (standing : List Bool) : Type 0 where
  pub count : length standing ≡ length roots
  pub nowhere : (i : ℕ) → i < length roots → slice_index_or standing i false ≡ false
      → (t : ℕ) → t < length c.transactions → (p : ℕ) → ¬ OccursAt (form_of c t) (root_of roots i) p
