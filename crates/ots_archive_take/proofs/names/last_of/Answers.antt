use Rattle.std.proofs.Common.{◌∙◌, ◌+◌, drop, arith}
use Rattle.std.proofs.lemmas.List.{length-drop, take_all}
use Rattle.ots_archive_take.proofs.LastPart.{last_none, last_some}
use Rattle.ots_archive_take.proofs.names.last_of.Goals as goal

pub returns-in-Some : goal.returns-in-Some
returns-in-Some c =
    take_all _ (drop (c.in-Some.place + 1) c.args.name.now) (omega (arith, length-drop (c.in-Some.place + 1) c.args.name.now))
    ∙ last_some c.args.name.now c.in-Some.place c.in-Some.ensures.0.high c.in-Some.ensures.1 c.in-Some.ensures.0.after

pub returns-in-None : goal.returns-in-None
returns-in-None c = last_none c.args.name.now c.in-None.ensures
