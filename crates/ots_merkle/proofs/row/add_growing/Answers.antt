use Rattle.std.proofs.Common.{◌∙◌, ap}
use Rattle.std.proofs.lemmas.List.{take_at}
use Rattle.ots_merkle.specs.Row.{added}
use Rattle.ots_merkle.proofs.Rows.{same_sum}
use Rattle.ots_merkle.proofs.row.add_growing.Goals as goal

pub returns-clause-added : goal.returns-clause-added
returns-clause-added c =
    take_at c.add.new.row _ c.make_room.new.row.len (c.add.auto.row ∙ c.as_mut_slice.ensures.len)
    ∙ c.add.ensures
    ∙ ap (λ r. added r c.args.leaf.now) (c.as_mut_slice.ensures.value ∙ c.in_ok-make_room.ensures.items)
    ∙ same_sum c.args.row.now.items c.args.leaf.now
