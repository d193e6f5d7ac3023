use Rattle.std.proofs.Common.{length, refl, ◌∙◌}
use Rattle.ots_tree.specs.Sound.{IsSoundPre}
use Rattle.ots_canon.proofs.SoundResults.{sound_canon}
use Rattle.ots_pending.specs.Listed.{pairs_in}
use Rattle.ots_pending.proofs.Completion.{grows_of, part_is, part_pre}
use Rattle.ots_pending.proofs.completing.grown_part.Goals as goal

pub from_tokens-requires : goal.from_tokens-requires
from_tokens-requires c =
    let form = c.args.form.now in
    let proof = c.args.proof.now in
    let ready = c.requires.ready in
    let sound : IsSoundPre (length proof.digest) 0 form = sound_canon _ 0 proof.tree form c.limits_of_detached.ensures.sound c.requires.form in
    let grows = grows_of c.args.pairs.now (pairs_in c.listing.result.now) ready.given c.args.ready.now form c.tokens.result.now c.depths.result.now proof.digest c.in_ok-digest.digest c.args.window.from
    c.in_ok-tokens.field-0 c.listing.ensures.pairs c.tokens.ensures.tokens (c.in_ok-digest.ensures ∙ c.bytes.ensures.bytes) ready.are c.in_ok-tokens.ensures.grows in
    part_pre c.args.pairs.now ready.given form c.depths.result.now proof.digest c.args.window.from c.in_ok-tokens.field-0 c.depths.ensures.kept sound grows

pub returns-clause-part : goal.returns-clause-part
returns-clause-part c given put =
    let form = c.args.form.now in
    let proof = c.args.proof.now in
    let sound : IsSoundPre (length proof.digest) 0 form = sound_canon _ 0 proof.tree form c.limits_of_detached.ensures.sound c.requires.form in
    let grows = grows_of c.args.pairs.now (pairs_in c.listing.result.now) given c.args.ready.now form c.tokens.result.now c.depths.result.now proof.digest c.in_ok-digest.digest c.args.window.from
    c.in_ok-tokens.field-0 c.listing.ensures.pairs c.tokens.ensures.tokens (c.in_ok-digest.ensures ∙ c.bytes.ensures.bytes) put c.in_ok-tokens.ensures.grows in
    part_is c.args.pairs.now given form c.depths.result.now proof.digest c.args.window.from c.in_ok-tokens.field-0 _ c.depths.ensures.kept sound grows c.in_ok-from_tokens.ensures refl refl
