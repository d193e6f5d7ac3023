use Rattle.std.proofs.Common.{subst}
use Rattle.ots_archive_take.specs.Making.{MakesNamed, MakesProof}
use Rattle.ots_detached.specs.File.{file_of}
use Rattle.ots_archive_take.proofs.making.make_proof.Goals as goal

pub returns-in-Ok : goal.returns-in-Ok
returns-in-Ok g c = MakesProof.named c.in-Ok.ensures.cases.1 (subst (λ n. MakesNamed n (file_of c.args.proof.now) c.args.complete c.args.status (g.W.World.told c.args.world.now) (g.W.World.told c.make_named.new.world) c.make_named.result) c.in-Ok.ensures.cases.0 c.make_named.ensures)
