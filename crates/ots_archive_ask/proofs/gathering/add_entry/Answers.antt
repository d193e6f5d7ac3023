use Rattle.std.proofs.Common.{refl}
use Rattle.std.specs.Prelude.{Ok, Err}
use Rattle.ots_archive_ask.proofs.Files.{has_file}
use Rattle.ots_archive_steps.specs.Ends.{IfRoom}
use Rattle.ots_archive_steps.specs.Entries.{entry_as}
use Rattle.ots_archive_steps.specs.Proofs.{Tries}
use Rattle.ots_archive_ask.proofs.gathering.add_entry.Goals as goal

pub returns-in-Ok-Ok-clause-ends : goal.returns-in-Ok-Ok-clause-ends
returns-in-Ok-Ok-clause-ends g c =
    let read : Tries (entry_as c.args.entry) (g.W.World.told c.args.world.now) (g.W.World.told c.try_proof.new.world) (Ok (Ok c.in-Ok-Ok.proof)) =
    rw c.in-Ok-Ok.field-0-is at c.in-Ok-Ok.ensures in
    IfRoom.after (Ok c.in-Ok-Ok.proof) read refl

pub returns-in-Ok-Err-clause-adds : goal.returns-in-Ok-Err-clause-adds
returns-in-Ok-Err-clause-adds g c =
    let tried : Tries (entry_as c.args.entry) (g.W.World.told c.args.world.now) (g.W.World.told c.try_proof.new.world) (Ok (Err c.in-Ok-Err.status)) =
    rw c.in-Ok-Err.field-0-is at c.in-Ok-Err.ensures in
    (Err c.in-Ok-Err.status, IfRoom.done tried, record { set = refl; skipped = refl; status = c.worse-gathered.ensures })

pub add_proof-requires-clause-file : goal.add_proof-requires-clause-file
add_proof-requires-clause-file g c = has_file (entry_as c.args.entry) _ _ c.in-Ok-Ok.proof (rw c.in-Ok-Ok.field-0-is at c.in-Ok-Ok.ensures)
