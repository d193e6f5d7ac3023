use denote.Param.Send.{IsSync, part_keyless}
use Rattle.ots_base.specs.contracts.ghost_bytes.GhostBytes.{the_row}
use Rattle.ots_base.proofs.ghost_bytes.GhostBytes.TheSendSync.Send.{send}

pub sync : IsSync the_row
sync = record { shared = λ d b o κ q. part_keyless the_row send q d b o }
