-- Which transaction of a block holds a root, and where.
use Rattle.std.specs.Prelude.{◌≡◌, ◌≢◌, ◌≤◌, ◌<◌, ℕ, List, [], length, slice_index_or}
use Rattle.memchr.specs.Find.{OccursAt}
use Rattle.ots_base.specs.declared.limits.TheConstants.{MAX_MESSAGE}
use Rattle.ots_block.specs.Block.{Contents, stripped_forms}
use Rattle.ots_anchor.specs.declared.search.Found.{Found}
use Rattle.ots_anchor.specs.declared.search.FindError.{FindError}
use Rattle.ots_anchor.specs.declared.search.FindError.TheVariants.{NoTip, TransactionTooLong, OutOfMemory}

abbrev pub root_of : List (List ℕ) → ℕ → List ℕ
root_of roots i = slice_index_or roots i []

-- the transaction with this index, without its witness
abbrev pub form_of : Contents → ℕ → List ℕ
form_of c t = slice_index_or (stripped_forms c) t []

-- some root stands in the bytes at this place
pub record HasRootAt (roots : List (List ℕ)) (form : List ℕ) (place : ℕ) : Type 0 where
  pub which : ℕ
  pub inside : which < length roots
  pub stands : OccursAt form (root_of roots which) place

pub record HasRoot (roots : List (List ℕ)) (form : List ℕ) : Type 0 where
  pub place : ℕ
  pub here : HasRootAt roots form place

-- At this place the root with this index stands, at no lesser place any root does, and no root with a greater
-- index is the same.
pub record IsFirstRoot (roots : List (List ℕ)) (form : List ℕ) (which place : ℕ) : Type 0 where
  pub root : which < length roots
  pub stands : OccursAt form (root_of roots which) place
  pub first : (p : ℕ) → p < place → ¬ HasRootAt roots form p
  pub last : (j : ℕ) → which < j → j < length roots → root_of roots j ≢ root_of roots which

-- a transaction of the block, short enough for a message
pub record IsShort (c : Contents) (t : ℕ) : Type 0 where
  pub inside : t < length c.transactions
  pub short : length (form_of c t) ≤ MAX_MESSAGE

-- Of the short transactions that hold a root it is the first, and in it the root is the first.
pub record IsFound (c : Contents) (roots : List (List ℕ)) (f : Found) : Type 0 where
  pub short : IsShort c f.transaction
  pub first : (t : ℕ) → t < f.transaction → IsShort c t → ¬ HasRoot roots (form_of c t)
  pub mark : IsFirstRoot roots (form_of c f.transaction) f.which f.place

-- no transaction holds a root
abbrev pub HasNoTip : Contents → List (List ℕ) → Type 0
HasNoTip c roots = (t : ℕ) → t < length c.transactions → ¬ HasRoot roots (form_of c t)

-- No short transaction holds a root, and the first that does has n bytes.
pub record IsTooLong (c : Contents) (roots : List (List ℕ)) (n : ℕ) : Type 0 where
  pub transaction : ℕ
  pub inside : transaction < length c.transactions
  pub holds : HasRoot roots (form_of c transaction)
  pub first : (t : ℕ) → t < transaction → ¬ HasRoot roots (form_of c t)
  pub none_short : (t : ℕ) → IsShort c t → ¬ HasRoot roots (form_of c t)
  pub bytes : n ≡ length (form_of c transaction)

abbrev pub IsFindError : Contents → List (List ℕ) → FindError → Type 0
IsFindError c roots NoTip = HasNoTip c roots
IsFindError c roots (TransactionTooLong n) = IsTooLong c roots n
IsFindError c roots OutOfMemory = Unit {0}
