-- A tree that comes in pieces: what has become of its bytes, and what each piece is answered.
use Rattle.std.specs.Prelude.{◌≡◌, ◌≢◌, ℕ, ◌+◌, ◌<◌, ◌≤◌, ◌^◌, List, ◌++◌, length, Result, Ok, Err}
use Rattle.ots_base.specs.Memory.{UnlessOutOfMemory}
use Rattle.ots_tree.specs.declared.shape.Shape.{Shape}
use Rattle.ots_tree.specs.declared.tree.Tree.{Tree}
use Rattle.ots_reader.specs.declared.fault.Fault.{Fault}
use Rattle.ots_reader.specs.declared.fault.Reason.TheVariants.{Truncated}
use Rattle.ots_reader.specs.declared.fault.ReadError.{ReadError}
use Rattle.ots_reader.specs.declared.fault.ReadError.TheVariants as error
use Rattle.ots_reader.specs.TreeFault.{HasTreeFault}
use Rattle.ots_reader.specs.TreeRead.{IsTreeAt}
use Rattle.ots_reader.specs.declared.fed.Fed.{Fed}
use Rattle.ots_reader.specs.declared.fed.Fed.TheVariants.{More, Done}

-- These bytes have come and the tree goes on, the tree is whole, or no tree comes.
pub data Progress : Type 0 where
  reading : List ℕ → Progress
  whole : Tree → Progress
  refused : ReadError → Progress

-- a reader: the length of the message that the tree stands below and the operations before it, and how far it has come
pub record Reader : Type 0 where
  pub shape : Shape
  pub progress : Progress

-- A piece of `more` bytes may come: the tree isn't whole, and all bytes are fewer than 2^64.
abbrev pub MayBeFed : Progress → ℕ → Type 0
MayBeFed (reading fed) more = length fed + more < 2 ^ 64
MayBeFed (whole tree) more = ⊥
MayBeFed (refused e) more = Unit {0}

-- the fault of bytes that a tree goes on after
abbrev pub ends_at : ℕ → Fault
ends_at place = record { place = place; reason = Truncated }

-- The bytes end before the tree does, and nothing else is wrong with them.
abbrev pub GoesOn : Shape → List ℕ → Type 0
GoesOn at bytes = (place : ℕ) × HasTreeFault at.length at.depth bytes (ends_at place)

-- The error is the fault of the bytes, which is another than that they end, unless memory ran out.
abbrev pub IsRefusal : Shape → List ℕ → ReadError → Type 0
IsRefusal at bytes error.OutOfMemory = Unit {0}
IsRefusal at bytes (error.Fault f) = HasTreeFault at.length at.depth bytes f × (f.reason ≢ Truncated)

-- The tree's last byte is the one before this place of the piece, after the bytes that came before it.
pub record EndsIn (at : Shape) (fed piece : List ℕ) (tree : Tree) (used : ℕ) : Type 0 where
  pub is_tree : IsTreeAt at.length at.depth (fed ++ piece) tree (length fed + used)
  pub some : 1 ≤ used
  pub within : used ≤ length piece

-- What a piece is answered, and what has become of the bytes then.
abbrev pub Feeds : Shape → Progress → List ℕ → Result Fed ReadError → Progress → Type 0
Feeds at (reading fed) piece (Ok More) now = GoesOn at (fed ++ piece) × (now ≡ reading (fed ++ piece))
Feeds at (reading fed) piece (Ok (Done used)) now = (tree : Tree) × EndsIn at fed piece tree used × (now ≡ whole tree)
Feeds at (reading fed) piece (Err e) now = IsRefusal at (fed ++ piece) e × (now ≡ refused e)
Feeds at (whole tree) piece answer now = ⊥
Feeds at (refused e) piece answer now = (answer ≡ Err e) × (now ≡ refused e)

-- The same the other way: which answer each bytes come to, where memory didn't run out.
pub record IsExact (at : Shape) (fed piece : List ℕ) (answer : Result Fed ReadError) : Type 0 where
  pub accepts : (tree : Tree) (used : ℕ) → IsTreeAt at.length at.depth (fed ++ piece) tree (length fed + used)
      → UnlessOutOfMemory error.OutOfMemory answer (Ok (Done used))
  pub refuses : (f : Fault) → f.reason ≢ Truncated → HasTreeFault at.length at.depth (fed ++ piece) f
      → UnlessOutOfMemory error.OutOfMemory answer (Err (error.Fault f))
  pub goes_on : (f : Fault) → f.reason ≡ Truncated → HasTreeFault at.length at.depth (fed ++ piece) f
      → UnlessOutOfMemory error.OutOfMemory answer (Ok More)

-- What is answered where no more pieces come.
abbrev pub Finishes : Shape → Progress → Result Tree ReadError → Type 0
Finishes at (reading fed) answer = (place : ℕ) × HasTreeFault at.length at.depth fed (ends_at place)
    × (answer ≡ Err (error.Fault (ends_at place)))
Finishes at (whole tree) answer = UnlessOutOfMemory error.OutOfMemory answer (Ok tree)
Finishes at (refused e) answer = answer ≡ Err e
