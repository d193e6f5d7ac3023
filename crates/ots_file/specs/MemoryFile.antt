-- What contracts see of a file in memory.
use Rattle.std.specs.Prelude.{ℕ, List}
use Rattle.ots_file.specs.Events.{FileEvent}
use Rattle.ots_file.specs.Record.{events_of}
use Rattle.ots_file.specs.declared.memory_file.MemoryFile.{MemoryFile}

-- what the device held when the file was made
abbrev pub memory_first : MemoryFile → List ℕ
memory_first f = f.first.items

abbrev pub memory_device : MemoryFile → List ℕ
memory_device f = f.device.items

abbrev pub memory_history : MemoryFile → List FileEvent
memory_history f = events_of f.log
