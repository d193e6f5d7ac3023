use Rattle.std.proofs.Common.{subst, ◌∙◌}
use Rattle.ots_archive_steps.specs.Ends.{IfRoom}
use Rattle.ots_archive_steps.specs.Proofs.{ReadsNamed}
use Rattle.ots_archive_steps.proofs.proofs.look_ending.Goals as goal

pub returns-in-Ok : goal.returns-in-Ok
returns-in-Ok g c = IfRoom.done (subst (λ n. ReadsNamed n (g.W.World.told c.args.world.now) (g.W.World.told c.look.new.world) c.look.result) (c.as_str.ensures.value ∙ c.in-Ok.ensures) c.look.ensures)
