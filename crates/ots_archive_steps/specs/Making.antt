-- Files that are made.
use Rattle.std.specs.Prelude.{◌≡◌, ◌⊎◌, ℕ, Bool, true, false, List, Ok, Err}
use Rattle.ots_archive_steps.specs.Printing.{Refuses}
use Rattle.ots_archive_text.specs.declared.status.ArchiveStatus.{ArchiveStatus}
use Rattle.ots_archive_text.specs.declared.status.ArchiveStatus.TheVariants.{OutOfMemory, WriteFault}
use Rattle.ots_archive_world.specs.Steps.{Step}
use Rattle.ots_archive_world.specs.Told.{Told, Makes}
use Rattle.ots_outputs.specs.declared.output.OutputError.TheVariants as output

-- A file is made; or it was there already, and stays; or the run ends.
abbrev pub MakesNew : List ℕ → List ℕ → Step Bool ArchiveStatus
MakesNew name bytes old new (Ok true) = Makes name bytes old new (Ok tt)
MakesNew name bytes old new (Ok false) = Makes name bytes old new (Err output.Exists)
MakesNew name bytes old new (Err s) =
    ((mid : Told) × Makes name bytes old mid (Err output.WriteFault) × Refuses name WriteFault mid new s)
    ⊎ (Makes name bytes old new (Err output.OutOfMemory) × (s ≡ OutOfMemory))
