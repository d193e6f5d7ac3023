-- For the code alone: what it keeps of a block.
use Rattle.std.specs.Prelude.{◌≡◌, ◌≤◌, ◌<◌, ◌^◌, ℕ, List, [], length, map, Result, Ok, Err}
use Rattle.std.specs.List.{AllByRecursion}
use Rattle.ots_headers.specs.Header.{header_in}
use Rattle.ots_block.specs.declared.places.Places.{Places}
use Rattle.ots_block.specs.Block.{Contents, stripped_forms}
use Rattle.ots_block.specs.Reading.{Halt, block_at}
use Rattle.ots_block.specs.Ends.{stripped_in, AreWithin}

-- the block that is read, where one is
abbrev contents_or : Result Contents Halt → Contents
contents_or (Ok c) = c
contents_or (Err h) = record { header = header_in []; transactions = [] }

unfoldable pub contents_in : List ℕ → Contents
contents_in bytes = contents_or (block_at bytes)

-- the block that these bytes are, and where its transactions lie
pub record IsKept (bytes : List ℕ) (c : Contents) (ps : List Places) : Type 0 where
  pub reads : block_at bytes ≡ Ok c
  pub header : header_in bytes ≡ c.header
  pub long : 80 ≤ length bytes
  pub strips : map (stripped_in bytes) ps ≡ stripped_forms c
  pub short : AllByRecursion (λ form. length form < 2 ^ 61) (stripped_forms c)
  pub within : AllByRecursion (AreWithin (length bytes)) ps
