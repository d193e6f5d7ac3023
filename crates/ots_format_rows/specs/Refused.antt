-- A reader that was refused.
use Rattle.ots_reader.specs.Progress.{Progress, reading, whole, refused}

-- No tree comes.
abbrev pub IsRefused : Progress → Type 0
IsRefused (reading fed) = ⊥
IsRefused (whole tree) = ⊥
IsRefused (refused e) = Unit {0}
