-- A table whose first line that fits decides.
use Rattle.std.specs.Prelude.{Bool, List, [], ◌∷◌, Option, Some, None, if◌then◌else◌}

-- A line of a table: its answer, where it fits.
abbrev pub line : {A : Type 0} → Bool → A → Option A
line fits answer = if fits then Some answer else None

-- The answer of the first line that fits, where one does.
abbrev pub first_line : {A : Type 0} → List (Option A) → Option A
first_line [] = None
first_line (Some answer ∷ lines) = Some answer
first_line (None ∷ lines) = first_line lines
