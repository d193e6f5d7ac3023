use Rattle.std.proofs.Common.{[], map, subst, true, false}
use Rattle.std.specs.Prelude.{Ok}
use Rattle.ots_archive_ask.proofs.sheet.make_sheet.Goals as goal
use Rattle.ots_archive_ask.specs.inner.Held.{TellsGathered}
use Rattle.ots_archive_steps.proofs.Ending.{ends_next}
use Rattle.ots_archive_steps.specs.Making.{MakesNew}
use Rattle.ots_sheet.specs.Request.{request_parts}
use Rattle.ots_sheet.specs.Sheet.{request_sheet}

pub returns-in-Ok-true : goal.returns-in-Ok-true
returns-in-Ok-true g c =
    let sheet = request_sheet (map request_parts c.args.requests.now) in
    ends_next (MakesNew c.args.name.now sheet) (TellsGathered c.args.name.now c.args.gathered.now) _ _ _ true _
    (subst (λ made. MakesNew c.args.name.now sheet (g.W.World.told c.args.world.now) (g.W.World.told c.make.new.world) (Ok made)) c.in-Ok-true.field-0-test c.in-Ok-true.ensures)
    (c.tell_made.ensures c.args.name.now)

pub returns-in-Ok-false : goal.returns-in-Ok-false
returns-in-Ok-false g c =
    let sheet = request_sheet (map request_parts c.args.requests.now) in
    ends_next (MakesNew c.args.name.now sheet) (TellsGathered c.args.name.now c.args.gathered.now) _ _ _ false _
    (subst (λ made. MakesNew c.args.name.now sheet (g.W.World.told c.args.world.now) (g.W.World.told c.make.new.world) (Ok made)) c.in-Ok-false.field-0-test c.in-Ok-false.ensures)
    (c.tell_exists.ensures [])
