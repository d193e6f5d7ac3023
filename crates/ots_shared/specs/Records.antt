-- Lists of records that grow.
use Rattle.std.specs.Prelude.{◌≡◌, ℕ, List, ◌++◌, slice_get, Some}
use Rattle.ots_store.specs.Order.{commits_of}
use Rattle.ots_store.specs.Records.{Record}

-- The list begins with the records that were seen.
abbrev pub StartsWith : List Record → List Record → Type 0
StartsWith records seen = (more : List Record) × (records ≡ seen ++ more)

-- The commitment stands at this index among those of the records.
abbrev pub StandsAt : List Record → ℕ → List ℕ → Type 0
StandsAt records index commitment = slice_get (commits_of records) index ≡ Some commitment
