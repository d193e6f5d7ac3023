use Rattle.std.proofs.lemmas.Result.{on_ok_weaker}
use Rattle.ots_growing_tree.proofs.Levels.{enough, joined_kept, joined_room, kept_same}
use Rattle.ots_growing_tree.proofs.growing.+reserve_levels.Goals as goal

pub returns-in_default-clause-kept : goal.returns-in_default-clause-kept
returns-in_default-clause-kept t c = kept_same c.args.levels.now

pub returns-in_default-clause-room : goal.returns-in_default-clause-room
returns-in_default-clause-room t c = enough c.args.levels.now c.args.total c.in_default.ensures.cases c.requires

pub returns-in_err-reserve_to-clause-kept : goal.returns-in_err-reserve_to-clause-kept
returns-in_err-reserve_to-clause-kept t c =
    joined_kept c.args.levels.now c.in-Some.level.now c.reserve_to.new.level c.in-Some.higher.now c.in-Some.higher.now c.in-Some.ensures.cases.0 c.reserve_to.ensures.items c.reserve_to.ensures.kept
    (kept_same c.in-Some.higher.now)

pub returns-clause-kept : goal.returns-clause-kept
returns-clause-kept t c =
    joined_kept c.args.levels.now c.in-Some.level.now c.reserve_to.new.level c.in-Some.higher.now c.reserve_levels.new.levels c.in-Some.ensures.cases.0 c.reserve_to.ensures.items
    c.reserve_to.ensures.kept c.reserve_levels.ensures.kept

pub returns-clause-room : goal.returns-clause-room
returns-clause-room t c =
    on_ok_weaker c.reserve_levels.result (λ room. joined_room c.reserve_to.new.level c.reserve_levels.new.levels c.args.total c.in_ok-reserve_to.ensures.room room) c.reserve_levels.ensures.room
