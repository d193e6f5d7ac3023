use Rattle.std.proofs.Common.{rules, ◌≡◌, ◌∙◌}
use Rattle.ots_attest.specs.declared.attestation.Attestation.TheVariants as attestation
use Rattle.ots_tree.specs.declared.token.Token.TheVariants as token
use Rattle.ots_tree.proofs.PendingPaths.{none_added, one_added}
use Rattle.ots_tree.proofs.pending.note.Goals as goal

pub returns-in_default-at : goal.returns-in_default-at
returns-in_default-at c =
    let is : c.args.token.now ≡ token.Attestation (attestation.Pending c.in-Attestation-Pending.uri) = search rules in
    none_added c.args.token.now c.in-Attestation-Pending.uri c.args.depth c.args.path c.args.messages.now c.args.found.now.items is c.in_default-at.ensures

pub returns : goal.returns
returns c =
    let is : c.args.token.now ≡ token.Attestation (attestation.Pending c.in-Attestation-Pending.uri) = search rules in
    one_added c.args.token.now c.in-Attestation-Pending.uri c.in-Some.message.now c.args.depth c.args.path c.args.messages.now _ _ _ _ is c.in-Some.ensures
    c.in_ok-copy.ensures (c.in_ok-new.ensures ∙ c.bytes.ensures.bytes) c.in_ok-push.ensures.items
