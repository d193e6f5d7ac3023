use Rattle.std.proofs.Common.{ap, subst, ◌∙◌}
use Rattle.ots_block.specs.Block.{Contents, stripped_forms}
use Rattle.ots_block.specs.Ends.{stripped_in}
use Rattle.ots_block.specs.Kept.{IsKept}
use Rattle.ots_block.proofs.Blocks.{form_kept, form_told, short_told}
use Rattle.ots_block.proofs.block.Block.stripped.Goals as goal

kept : (c : goal.After-stripped_at) → IsKept c.self.inside.bytes.items c.args.self.now c.self.inside.places.items
kept c = subst (λ (z : Contents). IsKept c.self.inside.bytes.items z c.self.inside.places.items) c.self.view_is c.self.invariant

pub returns-clause-form : goal.returns-clause-form
returns-clause-form c =
    form_told c.stripped_at.result _ _ c.stripped_at.ensures
    (ap (λ z. stripped_in z c.index.result.now) c.deref.ensures.value
    ∙ form_kept c.self.inside.bytes.items c.args.self.now c.self.inside.places.items c.index.result.now c.args.i (kept c) c.requires c.index.ensures)

pub returns-clause-short : goal.returns-clause-short
returns-clause-short c = short_told c.stripped_at.result (stripped_forms c.args.self.now) c.args.i (returns-clause-form c) (kept c).short
