-- How the messages of the open nodes of a tree lie in rows.
use Rattle.std.specs.Prelude.{◌≡◌, ℕ, ◌+◌, ◌*◌, ◌≤◌, ◌<◌, List, [], ◌∷◌, length, take, Bool, true, false, slice_index_or}
use Rattle.std.specs.List.{AllByRecursion}
use Rattle.ots_base.specs.declared.limits.TheConstants.{MAX_MESSAGE}
use Rattle.ots_tree.specs.Walk.{Position}
use Rattle.ots_verifier.specs.Rows.{row_of}
use Rattle.ots_verifier.specs.declared.messages.TheConstants.{ROWS}

-- Messages of these lengths, the last one first: each lies in the row whose number is how many are below it.
abbrev pub in_rows : List (List ℕ) → List ℕ → List (List ℕ)
in_rows rows [] = []
in_rows rows (n ∷ ns) = take n (slice_index_or rows (length ns) []) ∷ in_rows rows ns

-- the messages of the open nodes, and how many bytes of memory are taken for them
pub record Kept : Type 0 where
  pub position : Position (List ℕ)
  pub reserved : ℕ

-- A walk that carries lengths, with the messages of these lengths. The last node's message lies in the row after
-- those of the others, but directly after a fork in the last of them.
abbrev pub position : List (List ℕ) → Position ℕ → Position (List ℕ)
position rows lengths = record {
  last = take lengths.last (slice_index_or rows (row_of lengths.forked (length lengths.others)) []);
  others = in_rows rows lengths.others;
  forked = lengths.forked;
  room = lengths.room;
}

-- with so many rows, and two bytes for each length
abbrev pub kept_in : ℕ → List (List ℕ) → Position ℕ → Kept
kept_in count rows lengths = record { position = position rows lengths; reserved = MAX_MESSAGE * count + 2 * lengths.room }

-- After a fork there is another open node, and otherwise a row for the last one.
abbrev pub IsRoom : Bool → ℕ → Type 0
IsRoom false others = others < ROWS
IsRoom true others = (1 ≤ others) × (others ≤ ROWS)

-- Each message lies in its row, and there is room for whatever comes, and no more.
pub record AreHeld (rows : List (List ℕ)) (lengths : Position ℕ) : Type 0 where
  pub count : length rows ≡ ROWS
  pub last : lengths.last ≤ MAX_MESSAGE
  pub others : AllByRecursion (λ m. m ≤ MAX_MESSAGE) lengths.others
  pub places : IsRoom lengths.forked (length lengths.others)
  pub kept : lengths.room ≡ ROWS
