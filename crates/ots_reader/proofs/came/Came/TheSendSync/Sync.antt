use denote.Param.Send.{IsSync, part_keyless}
use Rattle.ots_reader.specs.contracts.came.Came.{the_row}
use Rattle.ots_reader.proofs.came.Came.TheSendSync.Send.{send}

pub sync : IsSync the_row
sync = record { shared = λ d b o κ q. part_keyless the_row send q d b o }
