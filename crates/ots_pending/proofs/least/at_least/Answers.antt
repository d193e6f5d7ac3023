use Rattle.std.proofs.Common.{length, ◌∙◌}
use Rattle.ots_tree.specs.Sound.{IsSoundPre}
use Rattle.ots_canon.proofs.SoundResults.{sound_canon}
use Rattle.ots_pending.specs.Listed.{pairs_in}
use Rattle.ots_pending.proofs.AtLeast.{is_least}
use Rattle.ots_pending.proofs.least.at_least.Goals as goal

pub returns : goal.returns
returns c made completed =
    let form = c.args.form.now in
    let proof = c.args.proof.now in
    let sound : IsSoundPre (length proof.digest) 0 form = sound_canon _ 0 proof.tree form c.limits_of_detached.ensures.sound c.requires.form in
    is_least c.disjoint_length.result proof c.args.pairs.now (pairs_in c.listing.result.now) c.args.trees.now form c.tokens.result.now made c.depths.result.now c.in_ok-digest.digest
    c.requires.form c.requires.trees c.requires.canonical c.depths.ensures.kept sound c.listing.ensures.pairs c.tokens.ensures.tokens (c.in_ok-digest.ensures ∙ c.bytes.ensures.bytes)
    c.disjoint_length.ensures completed
