-- For the code alone: the first root among the first ones.
use Rattle.std.specs.Prelude.{◌≢◌, ◌<◌, ℕ, List, nat_lt, Option, None, Some, if◌then◌else◌}
use Rattle.memchr.specs.Find.{OccursAt}
use Rattle.ots_anchor.specs.declared.mark.Mark.{Mark}
use Rattle.ots_anchor.specs.Find.{root_of, HasRoot, IsFirstRoot}

abbrev pub IsMark : List (List ℕ) → List ℕ → Option Mark → Type 0
IsMark roots form None = ¬ HasRoot roots form
IsMark roots form (Some m) = IsFirstRoot roots form m.which m.place

pub record IsFirstAmong (n : ℕ) (roots : List (List ℕ)) (form : List ℕ) (m : Mark) : Type 0 where
  pub root : m.which < n
  pub stands : OccursAt form (root_of roots m.which) m.place
  pub first : (p i : ℕ) → p < m.place → i < n → ¬ OccursAt form (root_of roots i) p
  pub last : (j : ℕ) → m.which < j → j < n → root_of roots j ≢ root_of roots m.which

abbrev pub IsMarkAmong : ℕ → List (List ℕ) → List ℕ → Option Mark → Type 0
IsMarkAmong n roots form None = (p i : ℕ) → i < n → ¬ OccursAt form (root_of roots i) p
IsMarkAmong n roots form (Some m) = IsFirstAmong n roots form m

-- the mark, after one root more was looked for
abbrev pub better : Option Mark → ℕ → Option ℕ → Option Mark
better best which None = best
better None which (Some place) = Some (record { which = which; place = place })
better (Some m) which (Some place) = if nat_lt m.place place then Some m
    else Some (record { which = which; place = place })
