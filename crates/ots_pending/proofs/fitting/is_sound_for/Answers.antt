use Rattle.std.proofs.Common.{rules, ◌≡◌, ◌∙◌, Some, List, ℕ, length, ap}
use Rattle.ots_pending.proofs.Fits.{fits}
use Rattle.ots_pending.proofs.fitting.is_sound_for.Goals as goal

pub returns : goal.returns
returns c =
    let is : c.args.tree.now ≡ Some c.in-Some.tree = search rules in
    fits c.args.pairs.now c.args.i _ _ c.args.tree.now c.in-Some.tree c.is_sound.result c.requires is
    (λ p at. ap (λ (z : List ℕ). length z) (c.bytes.ensures.bytes ∙ c.message.ensures p at)) c.depth.ensures c.is_sound.ensures
