-- What `info` prints.
use Rattle.std.specs.Prelude.{◌≡◌, ℕ, List, Option}
use Rattle.ots_client_endings.specs.Ending.{Ending, printing}
use Rattle.ots_client_endings.specs.Reading.{WithProof}
use Rattle.ots_client_text.specs.declared.status.Status.TheVariants.{Done}
use Rattle.ots_info.specs.Listing.{IsInfoText}
use Rattle.ots_outside.specs.Shelf.{Names}
use Rattle.ots_tree.specs.declared.detached.Detached.{Detached}

-- Its text is printed.
abbrev pub PrintsInfo : Detached → Ending → Type 0
PrintsInfo proof e = (text : List ℕ) × IsInfoText proof text × (e ≡ printing Done text)

-- The proof is read, and its text printed.
abbrev pub TellsProof : Option Names → List ℕ → Ending → Type 0
TellsProof told name = WithProof told name PrintsInfo
