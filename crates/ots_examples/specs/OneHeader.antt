-- A header table that has the block of that calendar's anchor.
use Rattle.std.specs.Prelude.{[], ◌∷◌, replicate}
use Rattle.ots_examples.specs.OneRound.{OneRound, anchor}
use Rattle.ots_headers.specs.HeaderTable.{Table}
use Rattle.ots_headers.specs.declared.header.Header.{Header}

-- of its fields the root alone counts
abbrev pub header : OneRound → Header
header r = record { version = 1; previous = replicate 32 0; root = (anchor r).root; time = 0; bits = 0; nonce = 0 }

abbrev pub table : OneRound → Table
table r = record { first = r.height; headers = header r ∷ [] }
