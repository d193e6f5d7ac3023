-- A request that was read, and a reply that was written after it.
use Rattle.std.proofs.Common.{◌≤◌, [], arith}
use Rattle.ots_http.specs.Seen.{LinkSeen, Takes}
use Rattle.ots_http.proofs.Seen.{takes_after}
use Rattle.ots_connection.specs.declared.due.Due.{Due}
use Rattle.ots_connection.specs.declared.served.Served.{Served}
use Rattle.ots_connection.specs.Sending.{Sends, whole, cut}

pub sends_after : (due : Due) (old mid new : LinkSeen) (result : Served) → Takes [] old mid → old.faults ≤ mid.faults → Sends due mid new result → Sends due old new result
sends_after due old mid new result one later (whole is t) = whole is (takes_after _ old mid new one t)
sends_after due old mid new result one later (cut n within is rose t) = cut n within is (omega arith) (takes_after _ old mid new one t)
