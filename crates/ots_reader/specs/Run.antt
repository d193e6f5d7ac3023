-- Whole runs: a reader that is begun, and fed one piece after the other.
use Rattle.std.specs.Prelude.{◌≡◌, ℕ, List, [], ◌∷◌, Result}
use Rattle.std.specs.List.{flat_map}
use Rattle.ots_tree.specs.declared.shape.Shape.{Shape}
use Rattle.ots_reader.specs.declared.fault.ReadError.{ReadError}
use Rattle.ots_reader.specs.TreeRead.{IsTreeAt}
use Rattle.ots_reader.specs.declared.fed.Fed.{Fed}
use Rattle.ots_reader.specs.Progress.{Progress, reading, whole, refused, GoesOn, IsRefusal, Feeds}

-- Each piece is fed to what the pieces before it made.
pub data Run (at : Shape) : Progress → List (List ℕ) → Progress → Type 0 where
  none : (p : Progress) → Run at p [] p
  more : (p q last : Progress) (piece : List ℕ) (pieces : List (List ℕ)) (answer : Result Fed ReadError)
      → Feeds at p piece answer q → Run at q pieces last → Run at p (piece ∷ pieces) last

abbrev pub joined : List (List ℕ) → List ℕ
joined pieces = flat_map (λ piece. piece) pieces

-- What the bytes are, however they were cut: those of a tree that goes on, bytes that begin with a tree, or bytes with
-- another fault than that they end, unless memory ran out.
abbrev pub StandsFor : Shape → List ℕ → Progress → Type 0
StandsFor at bytes (reading fed) = (fed ≡ bytes) × GoesOn at bytes
StandsFor at bytes (whole tree) = (used : ℕ) × IsTreeAt at.length at.depth bytes tree used
StandsFor at bytes (refused e) = IsRefusal at bytes e
