-- For the code alone: what one transaction holds, and what those before an index do.
use Rattle.std.specs.Prelude.{◌≡◌, ◌≤◌, ◌<◌, ℕ, List, length, Option, None, Some}
use Rattle.ots_base.specs.declared.limits.TheConstants.{MAX_MESSAGE}
use Rattle.ots_block.specs.Block.{Contents}
use Rattle.ots_anchor.specs.declared.search.Look.{Look}
use Rattle.ots_anchor.specs.declared.search.Look.TheVariants.{Nothing, Long, Short}
use Rattle.ots_anchor.specs.declared.mark.Mark.{Mark}
use Rattle.ots_anchor.specs.Find.{form_of, HasRoot, IsFirstRoot, IsShort}

pub record IsLong (c : Contents) (roots : List (List ℕ)) (t n : ℕ) : Type 0 where
  pub long : MAX_MESSAGE < length (form_of c t)
  pub holds : HasRoot roots (form_of c t)
  pub bytes : n ≡ length (form_of c t)

pub record IsShortMark (c : Contents) (roots : List (List ℕ)) (t : ℕ) (m : Mark) : Type 0 where
  pub short : length (form_of c t) ≤ MAX_MESSAGE
  pub mark : IsFirstRoot roots (form_of c t) m.which m.place

abbrev pub IsLook : Contents → List (List ℕ) → ℕ → Look → Type 0
IsLook c roots t Nothing = ¬ HasRoot roots (form_of c t)
IsLook c roots t (Long n) = IsLong c roots t n
IsLook c roots t (Short m) = IsShortMark c roots t m

-- the first that holds a root, a long one, is before this index
pub record IsFirstLong (c : Contents) (roots : List (List ℕ)) (i n : ℕ) : Type 0 where
  pub transaction : ℕ
  pub before : transaction < i
  pub holds : HasRoot roots (form_of c transaction)
  pub first : (t : ℕ) → t < transaction → ¬ HasRoot roots (form_of c t)
  pub bytes : n ≡ length (form_of c transaction)

abbrev pub IsFirst : Contents → List (List ℕ) → ℕ → Option ℕ → Type 0
IsFirst c roots i None = (t : ℕ) → t < i → ¬ HasRoot roots (form_of c t)
IsFirst c roots i (Some n) = IsFirstLong c roots i n

-- before this index no short transaction holds a root
pub record IsPast (c : Contents) (roots : List (List ℕ)) (i : ℕ) (long : Option ℕ) : Type 0 where
  pub none_short : (t : ℕ) → t < i → IsShort c t → ¬ HasRoot roots (form_of c t)
  pub first : IsFirst c roots i long

-- the length of the first long one, after one transaction more
abbrev pub long_after : Option ℕ → Look → Option ℕ
long_after None (Long n) = Some n
long_after long look = long
