-- What a shelf tells of its names and slots, and what each of its calls does to that.
use Rattle.std.specs.Prelude.{◌≡◌, ◌≢◌, ◌≤◌, ℕ, Bool, true, false, List, [], ◌∷◌, ◌++◌, take, Option, None, Result, Ok}
use Rattle.std.specs.Prelude.{Err, IsTrue, IsSome, IsNone, IsSomeAnd, MatchResult, unwrap_or, refl}
use Rattle.std.specs.Ordering.{nat_cmp}
use Rattle.std.specs.Cmp.Lexicographic.{slice_cmp}
use Rattle.std.specs.Option.{option_map, option_and_then}
use Rattle.std.specs.FinMap as map
use Rattle.std.proofs.Common.{◌∙◌}
use Rattle.ots_base.specs.Told.{IfTold}
use Rattle.ots_outside.specs.declared.shelf.Slot.{Slot}
use Rattle.ots_outside.specs.declared.shelf.OpenError.{OpenError}
use Rattle.ots_outside.specs.declared.shelf.OpenError.TheVariants as opening
use Rattle.ots_outside.specs.declared.shelf.CreateError.{CreateError}
use Rattle.ots_outside.specs.declared.shelf.CreateError.TheVariants as creating

-- Bytes by name.
abbrev pub Names : Type 0
Names = map.FinMap (slice_cmp nat_cmp) (List ℕ)

-- What a slot is in use for: nothing; a name that was opened, with the bytes left where they are told; a name that
-- was created.
pub data SlotUse : Type 0 where
  closed : SlotUse
  reading : Option (List ℕ) → SlotUse
  writing : List ℕ → SlotUse

-- The slot was opened and not closed.
abbrev pub is_reading : SlotUse → Bool
is_reading closed = false
is_reading (reading left) = true
is_reading (writing name) = false

-- The slot was created and not closed.
abbrev pub is_writing : SlotUse → Bool
is_writing closed = false
is_writing (reading left) = false
is_writing (writing name) = true

-- The bytes that an opened slot has left, where they are told.
abbrev pub left_of : SlotUse → Option (List ℕ)
left_of closed = None
left_of (reading left) = left
left_of (writing name) = None

-- The name that a slot was created under.
abbrev pub name_of : SlotUse → List ℕ
name_of closed = []
name_of (reading left) = []
name_of (writing name) = name

pub record ShelfTold : Type 0 where
  -- the bytes of each name
  pub names : Option Names
  -- the names whose `open` answered Ok, in order
  pub opened : Option (List (List ℕ))
  -- what each slot is in use for, by its number
  pub slots : ℕ → SlotUse
  -- how often an `open` or a `create` ran out of memory
  pub short : ℕ

-- How often the calls of a shelf have failed. At 2^64 - 1 each of these counts stays.
pub record ShelfFaults : Type 0 where
  -- of `open`
  pub opening : ℕ
  -- of `read`
  pub reading : ℕ
  -- of `create` and `write`
  pub writing : ℕ

-- No count falls.
pub record NeverFalls (before now : ShelfFaults) : Type 0 where
  pub opening : before.opening ≤ now.opening
  pub reading : before.reading ≤ now.reading
  pub writing : before.writing ≤ now.writing

-- Only faults of `open` were counted, if any.
pub record OnlyOpening (before now : ShelfFaults) : Type 0 where
  pub reading : now.reading ≡ before.reading
  pub writing : now.writing ≡ before.writing

-- Only faults of `read` were counted, if any.
pub record OnlyReading (before now : ShelfFaults) : Type 0 where
  pub opening : now.opening ≡ before.opening
  pub writing : now.writing ≡ before.writing

pub OnlyReading-refl : (t : ShelfFaults) → OnlyReading t t
OnlyReading-refl t = record { opening = refl; writing = refl }

pub OnlyReading-trans : (t u v : ShelfFaults) → OnlyReading t u → OnlyReading u v → OnlyReading t v
OnlyReading-trans t u v p q = record { opening = q.opening ∙ p.opening; writing = q.writing ∙ p.writing }

-- Only faults of `create` and `write` were counted, if any.
pub record OnlyWriting (before now : ShelfFaults) : Type 0 where
  pub opening : now.opening ≡ before.opening
  pub reading : now.reading ≡ before.reading

pub OnlyWriting-refl : (t : ShelfFaults) → OnlyWriting t t
OnlyWriting-refl t = record { opening = refl; reading = refl }

pub OnlyWriting-trans : (t u v : ShelfFaults) → OnlyWriting t u → OnlyWriting u v → OnlyWriting t v
OnlyWriting-trans t u v p q = record { opening = q.opening ∙ p.opening; reading = q.reading ∙ p.reading }

-- The bytes of a name, where they are told.
abbrev pub told_bytes : ShelfTold → List ℕ → Option (List ℕ)
told_bytes told name = option_and_then (λ names. map.get names name) told.names

-- Where names are told, this one is among them and its bytes have P.
abbrev pub WhereTold : ShelfTold → List ℕ → (List ℕ → Type 0) → Type 0
WhereTold told name P = IfTold told.names (λ names. IsSomeAnd (map.get names name) P)

-- ---- what stays

-- All that is told stays, but for this slot.
pub record SameButSlot (slot : ℕ) (old new : ShelfTold) : Type 0 where
  pub names : new.names ≡ old.names
  pub opened : new.opened ≡ old.opened
  pub short : new.short ≡ old.short
  pub others : (k : ℕ) → k ≢ slot → new.slots k ≡ old.slots k

pub SameButSlot-refl : (slot : ℕ) (t : ShelfTold) → SameButSlot slot t t
SameButSlot-refl slot t = record { names = refl; opened = refl; short = refl; others = λ k other. refl }

pub SameButSlot-trans : (first second : ℕ) (t u v : ShelfTold) → second ≡ first
    → SameButSlot first t u → SameButSlot second u v → SameButSlot first t v
SameButSlot-trans first second t u v one p q = record {
  names = q.names ∙ p.names;
  opened = q.opened ∙ p.opened;
  short = q.short ∙ p.short;
  others = λ k other. q.others k (λ e. other (e ∙ one)) ∙ p.others k other;
}

-- All that is told stays, but for the bytes of names.
pub record SameButNames (old new : ShelfTold) : Type 0 where
  pub opened : new.opened ≡ old.opened
  pub short : new.short ≡ old.short
  pub slots : (k : ℕ) → new.slots k ≡ old.slots k

-- All that is told of names and slots stays.
pub record Stays (old new : ShelfTold) : Type 0 where
  pub names : new.names ≡ old.names
  pub opened : new.opened ≡ old.opened
  pub slots : (k : ℕ) → new.slots k ≡ old.slots k

-- ---- opening and creating

-- A slot was opened for reading this name from its start.
pub record Opens (name : List ℕ) (slot : ℕ) (old new : ShelfTold) : Type 0 where
  pub was_closed : old.slots slot ≡ closed
  pub is_open : IsTrue (is_reading (new.slots slot))
  pub left : left_of (new.slots slot) ≡ told_bytes old name
  pub names : new.names ≡ old.names
  pub opened : new.opened ≡ option_map (λ names. names ++ name ∷ []) old.opened
  pub others : (k : ℕ) → k ≢ slot → new.slots k ≡ old.slots k

-- A slot was created for writing this name, which holds no bytes yet.
pub record Creates (name : List ℕ) (slot : ℕ) (old new : ShelfTold) : Type 0 where
  pub was_closed : old.slots slot ≡ closed
  pub is_open : IsTrue (is_writing (new.slots slot))
  pub in_use : IsSome old.names → new.slots slot ≡ writing name
  pub names : new.names ≡ option_map (λ names. map.insert names name []) old.names
  pub opened : new.opened ≡ old.opened
  pub others : (k : ℕ) → k ≢ slot → new.slots k ≡ old.slots k

-- The answers of `open`, by the bytes of the name where names are told: `NotThere` exactly where there are none.
-- Want of memory alone may come in place of it.
abbrev pub OpensWhere : Option (List ℕ) → Result Slot OpenError → Type 0
OpensWhere found (Ok slot) = IsSome found
OpensWhere found (Err opening.NotThere) = IsNone found
OpensWhere found (Err opening.Failed) = IsSome found
OpensWhere found (Err opening.OutOfMemory) = Unit {0}

-- The answers of `create` likewise: `Exists` exactly where there are bytes.
abbrev pub CreatesWhere : Option (List ℕ) → Result Slot CreateError → Type 0
CreatesWhere found (Ok slot) = IsNone found
CreatesWhere found (Err creating.Exists) = IsSome found
CreatesWhere found (Err creating.Failed) = IsNone found
CreatesWhere found (Err creating.OutOfMemory) = Unit {0}

-- ---- writing

-- The bytes of a name grew by these.
abbrev pub with_more : List ℕ → List ℕ → Names → Names
with_more name more names = map.insert names name (unwrap_or (map.get names name) [] ++ more)

-- `write` of a piece appended to the name the n bytes that it took at `Ok(n)`, and nothing at `Err`.
abbrev pub WritesTo : {E : Type 0} → List ℕ → ShelfTold → ShelfTold → Result ℕ E → List ℕ → Type 0
WritesTo name old new result piece =
    MatchResult result (λ n. new.names ≡ option_map (with_more name (take n piece)) old.names)
    (λ _. new.names ≡ old.names)
