-- What is told of the outside at a moment, and what a call does to it.
use Rattle.std.specs.Prelude.{◌≡◌, ◌≤◌, ℕ, List, length, Option, Result, MatchResult}
use Rattle.ots_base.specs.Cause.{Rose}
use Rattle.ots_inputs.specs.Input.{ReadsInput}
use Rattle.ots_inputs.specs.declared.error.InputError.{InputError}
use Rattle.ots_outputs.specs.Made.{MakesFile}
use Rattle.ots_outputs.specs.Printed as printing
use Rattle.ots_outputs.specs.declared.output.OutputError.{OutputError}
use Rattle.ots_outside.specs.Shelf.{ShelfFaults, ShelfTold}
use Rattle.ots_outside.specs.Streams.{Gives}
use Rattle.ots_outside.specs.declared.failed.Failed.{Failed}

pub record Told : Type 0 where
  pub shelf : ShelfTold
  -- how often the shelf's calls failed
  pub faults : ShelfFaults
  -- what was printed
  pub taken : Option (List ℕ)
  -- how often printing failed
  pub lost : ℕ
  -- what the nonces to come are
  pub left : Option (List ℕ)
  -- how often drawing one failed
  pub undrawn : ℕ

-- Only the shelf was called.
pub record OnlyShelf (old new : Told) : Type 0 where
  pub taken : new.taken ≡ old.taken
  pub lost : new.lost ≡ old.lost
  pub left : new.left ≡ old.left
  pub undrawn : new.undrawn ≡ old.undrawn

-- Only the sink was called.
pub record OnlySink (old new : Told) : Type 0 where
  pub shelf : new.shelf ≡ old.shelf
  pub faults : new.faults ≡ old.faults
  pub left : new.left ≡ old.left
  pub undrawn : new.undrawn ≡ old.undrawn

-- Only nonces were drawn.
pub record OnlyNonces (old new : Told) : Type 0 where
  pub shelf : new.shelf ≡ old.shelf
  pub faults : new.faults ≡ old.faults
  pub taken : new.taken ≡ old.taken
  pub lost : new.lost ≡ old.lost

-- A name was read, of whose bytes something is made.
pub record Reads {A R : Type 0} (Gives : List ℕ → A → Type 0) (Refuses : List ℕ → R → Type 0) (name : List ℕ)
    (old new : Told) (r : Result A (InputError R)) : Type 0 where
  pub input : ReadsInput Gives Refuses name old.shelf new.shelf old.faults new.faults r
  pub others : OnlyShelf old new

-- A text was printed.
pub record Prints (IsText : List ℕ → Type 0) (old new : Told) (r : Result (Unit {0}) Failed) : Type 0 where
  pub printed : printing.Prints IsText (Rose old.lost new.lost) old.taken new.taken r
  pub later : old.lost ≤ new.lost
  pub others : OnlySink old new

-- A file was made.
pub record Makes (name bytes : List ℕ) (old new : Told) (r : Result (Unit {0}) OutputError) : Type 0 where
  pub made : MakesFile name bytes old.shelf new.shelf old.faults new.faults r
  pub others : OnlyShelf old new

-- A nonce was drawn, of 16 bytes.
pub record Draws (old new : Told) (r : Result (List ℕ) Failed) : Type 0 where
  pub drawn : MatchResult r (λ nonce. Gives old.left new.left nonce × (length nonce ≡ 16))
      (λ _. (new.left ≡ old.left) × Rose old.undrawn new.undrawn)
  pub later : old.undrawn ≤ new.undrawn
  pub others : OnlyNonces old new
