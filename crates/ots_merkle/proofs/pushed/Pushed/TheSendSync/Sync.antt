use denote.Param.Send.{IsSync, part_keyless}
use Rattle.ots_merkle.specs.contracts.pushed.Pushed.{the_row}
use Rattle.ots_merkle.proofs.pushed.Pushed.TheSendSync.Send.{send}

pub sync : IsSync the_row
sync = record { shared = λ d b o κ q. part_keyless the_row send q d b o }
