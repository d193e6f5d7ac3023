-- How many names of files words give.
use Rattle.std.specs.Prelude.{◌≤◌, ℕ, length}
use Rattle.ots_archive_words.specs.declared.limits.TheConstants.{MAX_NAMES}
use Rattle.ots_archive_words.specs.declared.names.Names.{Names}
use Rattle.ots_archive_words.specs.declared.names.Names.TheVariants.{Given, Sums}

-- the files themselves, or the one that has their names
abbrev pub count : Names → ℕ
count (Given names) = length names.items
count (Sums name) = 1

abbrev pub AreFew : Names → Type 0
AreFew names = (1 ≤ count names) × (count names ≤ MAX_NAMES)
