-- Bytes in a room, from one place up to another.
use Rattle.std.specs.Prelude.{◌≤◌, ◌-◌, ℕ, List, take, drop}
use Rattle.ots_line_reader.specs.declared.reader.TheConstants.{ROOM}
use Rattle.ots_line_reader.specs.declared.reader.Span.{Span}

-- those of a span
abbrev pub bytes_in : Span → List ℕ → List ℕ
bytes_in span room = take (span.end - span.start) (drop span.start room)

-- The span is within the room.
pub record IsSpan (span : Span) : Type 0 where
  pub order : span.start ≤ span.end
  pub within : span.end ≤ ROOM
