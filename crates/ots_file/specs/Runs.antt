-- The calls of the file that one read or one write of a disk makes.
use Rattle.std.specs.Prelude.{◌≡◌, ◌⊎◌, ℕ, ◌+◌, ◌-◌, ◌^◌, min, true, false, List, [], ◌∷◌, ◌++◌, length, slice_range}
use Rattle.ots_file.specs.Events.{FileEvent}
use Rattle.ots_file.specs.Events.FileEvent.{got, wrote}

-- the place of the next call; one that is past every file stays at the greatest
abbrev pub from_here : ℕ → ℕ → ℕ
from_here place done = min (place + done) (2 ^ 64 - 1)

-- ---- writes

-- how many bytes were taken, of which the newest count comes first
abbrev pub total : List ℕ → ℕ
total [] = 0
total (k ∷ earlier) = total earlier + k

-- Each call goes on where the one before it ended, with all that was left.
abbrev pub writes : ℕ → List ℕ → List FileEvent → List ℕ → List FileEvent
writes place piece old [] = old
writes place piece old (k ∷ earlier) =
    wrote (from_here place (total earlier)) (slice_range piece (total earlier) (length piece)) true k
    ∷ writes place piece old earlier

-- The whole piece was taken.
abbrev pub WritesAll : ℕ → List ℕ → List FileEvent → List FileEvent → Type 0
WritesAll place piece old new =
    (takes : List ℕ) × (new ≡ writes place piece old takes) × (total takes ≡ length piece)

-- The last call failed.
abbrev pub WritesPart : ℕ → List ℕ → List FileEvent → List FileEvent → Type 0
WritesPart place piece old new =
    (takes : List ℕ) × (new ≡
    wrote (from_here place (total takes)) (slice_range piece (total takes) (length piece)) false 0
    ∷ writes place piece old takes)

-- ---- reads

-- the bytes that came, of which the newest part comes first
abbrev pub joined : List (List ℕ) → List ℕ
joined [] = []
joined (part ∷ earlier) = joined earlier ++ part

-- Each call goes on where the one before it ended, with all of the room that was left.
abbrev pub reads : ℕ → ℕ → List FileEvent → List (List ℕ) → List FileEvent
reads place room old [] = old
reads place room old (part ∷ earlier) =
    got (from_here place (length (joined earlier))) (room - length (joined earlier)) true part
    ∷ reads place room old earlier

-- The last call gave no bytes.
abbrev pub EndsEmpty : List (List ℕ) → Type 0
EndsEmpty [] = ⊥
EndsEmpty (part ∷ earlier) = part ≡ []

-- These bytes came, and the room was filled or the file had no more.
abbrev pub ReadsAll : ℕ → ℕ → List ℕ → List FileEvent → List FileEvent → Type 0
ReadsAll place room bytes old new =
    (parts : List (List ℕ)) × (new ≡ reads place room old parts) × (joined parts ≡ bytes)
    × ((length bytes ≡ room) ⊎ EndsEmpty parts)

-- The last call failed.
abbrev pub ReadsPart : ℕ → ℕ → List FileEvent → List FileEvent → Type 0
ReadsPart place room old new =
    (parts : List (List ℕ)) × (new ≡
    got (from_here place (length (joined parts))) (room - length (joined parts)) false []
    ∷ reads place room old parts)
