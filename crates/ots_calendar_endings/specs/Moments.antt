-- What a crash may leave at a moment of a run.
use Rattle.std.specs.Prelude.{◌⊎◌, ℕ, List, ◌++◌, Option}
use Rattle.ots_journal.specs.declared.entry.Entry.{Entry}
use Rattle.ots_journal.specs.Image.{Stands}
use Rattle.ots_journal.specs.Opening.{OpenedFrom}
use Rattle.ots_opening.specs.Images.{StandsAfter}
use Rattle.ots_opening.specs.Opening.{AreEntries}

-- Each image stands for these entries.
abbrev pub EachStands : (List ℕ → Type 0) → List Entry → Type 0
EachStands images entries = (c : List ℕ) → images c → Stands c entries

-- An image stands for these entries, or for these and what may be added.
abbrev pub StandsWith : (List Entry → Type 0) → List Entry → List ℕ → Type 0
StandsWith may_add entries c = Stands c entries ⊎ ((added : List Entry) × may_add added × Stands c (entries ++ added))

-- It is one that opening may leave, or stands for the entries found, or for these and what may be added.
abbrev pub OpenedOrRan : Option (List ℕ) → (List ℕ → Type 0) → (List Entry → List Entry → Type 0) → List ℕ → Type 0
OpenedOrRan told images may_add c = OpenedFrom images c ⊎ ((entries : List Entry) × AreEntries told entries
    × StandsWith (may_add entries) entries c)

-- Each image stands for entries that begin with those found.
abbrev pub KeepsFound : Option (List ℕ) → (List ℕ → Type 0) → Type 0
KeepsFound told images = (entries : List Entry) × AreEntries told entries
    × ((c : List ℕ) → images c → StandsAfter entries c)

-- What a command adds that only reads, or is refused.
abbrev pub AddsNothing : List Entry → List Entry → Type 0
AddsNothing entries added = ⊥
