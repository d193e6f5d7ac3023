use Rattle.std.proofs.Common.{◌∙◌}
use Rattle.ots_anchor.proofs.Standings.{in_one}
use Rattle.ots_anchor.proofs.search.look_at.Goals as goal

pub first_mark-requires : goal.first_mark-requires
first_mark-requires c =
    in_one c.args.block.now c.args.finders.now c.args.standing.now c.args.transaction c.deref.result.now c.requires.inside (c.deref.ensures.value ∙ c.in_ok-form.ensures.form) c.requires.standing
