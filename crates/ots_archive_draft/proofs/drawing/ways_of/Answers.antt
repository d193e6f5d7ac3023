use Rattle.std.proofs.Common.{ap, ◌∙◌}
use Rattle.std.proofs.lemmas.List.{take_all}
use Rattle.ots_archive_draft.proofs.Turns.{ok_hashes}
use Rattle.ots_stamp.specs.Stamped.{leaves}
use Rattle.ots_archive_draft.proofs.drawing.ways_of.Goals as goal

pub returns-clause-hashes : goal.returns-clause-hashes
returns-clause-hashes c =
    ok_hashes c.args.targets.now c.loop-target.leaves.items c.new.result (c.loop-target.invariant ∙ ap leaves (take_all c.loop-target.target-index c.args.targets.now c.loop-target-test.false)) c.new.ensures
