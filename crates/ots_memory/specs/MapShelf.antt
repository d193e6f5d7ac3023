-- What a shelf in memory tells, by what it holds.
use Rattle.ots_memory.specs.Entries.{told_of}
use Rattle.ots_memory.specs.MapShelfTold.{MapShelfTold}
use Rattle.ots_memory.specs.declared.map_shelf.MapShelf.{MapShelf}

-- All that it tells.
abbrev pub tells : MapShelf → MapShelfTold
tells shelf = told_of shelf.entries.items shelf.slots.items shelf.opened_places.items shelf.room shelf.calls
    (record { opening = shelf.open_faults; reading = shelf.read_faults; writing = shelf.write_faults })
