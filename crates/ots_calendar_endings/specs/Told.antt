-- What is told of all that lies outside a run.
use Rattle.std.specs.Prelude.{◌≤◌, ◌⊎◌, ℕ, List, Option, None}
use Rattle.ots_outside.specs.Shelf.{ShelfFaults, ShelfTold, closed}

-- What is told of a disk, of a shelf of files, and of a sink, at one moment.
pub record Told : Type 1 where
  -- the journal's file: what a read gives, what a crash now may leave, and what one may have left since a moment
  pub bytes : Option (List ℕ)
  pub images : List ℕ → Type 0
  pub clock : ℕ
  pub images_since : ℕ → List ℕ → Type 0
  pub disk_faults : ℕ
  -- the files that a command names
  pub shelf : ShelfTold
  pub shelf_faults : ShelfFaults
  -- what is printed
  pub taken : Option (List ℕ)
  pub sink_faults : ℕ

-- Nothing is told of files, where a command names none.
abbrev pub no_files : ShelfTold
no_files = record { names = None; opened = None; slots = λ k. closed; short = 0 }

abbrev pub no_faults : ShelfFaults
no_faults = record { opening = 0; reading = 0; writing = 0 }

-- From one moment of a disk's clock to another, each image that a crash may have left is such. The last field says it
-- of a run that began earlier.
pub record LeavesBetween (clock now : ℕ) (since since_now : ℕ → List ℕ → Type 0) (P : List ℕ → Type 0) : Type 0 where
  pub later : clock ≤ now
  pub each : (c : List ℕ) → since_now clock c → P c
  pub before : (t : ℕ) (c : List ℕ) → t ≤ clock → since_now t c → since t c ⊎ P c

abbrev pub Leaves : Told → Told → (List ℕ → Type 0) → Type 0
Leaves old new P = LeavesBetween old.clock new.clock old.images_since new.images_since P
