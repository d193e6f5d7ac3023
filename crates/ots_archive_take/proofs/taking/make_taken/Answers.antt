use Rattle.std.proofs.Common.{sym}
use Rattle.ots_archive_take.proofs.taking.make_taken.Goals as goal

pub returns-in-Stamped : goal.returns-in-Stamped
returns-in-Stamped g c = rw (c.in-Stamped.is, sym c.bytes.ensures) c.make_proof.ensures

pub returns-in-Upgraded : goal.returns-in-Upgraded
returns-in-Upgraded g c = rw (c.in-Upgraded.is, sym c.bytes-in-Upgraded.ensures, sym c.status_of.ensures) c.make_proof-in-Upgraded.ensures
