use Rattle.std.proofs.Common.{rules, ◌≡◌, Some, None, refl, subst}
use Rattle.ots_attest.specs.declared.attestation.Attestation.TheVariants as attestation
use Rattle.ots_tree.specs.declared.token.Token.TheVariants as token
use Rattle.ots_pending.specs.OnPath.{Numbers}
use Rattle.ots_pending.proofs.Raising.{on_ok}
use Rattle.ots_pending.proofs.Walking.{mid_kept, none_notes, one_notes}
use Rattle.ots_pending.proofs.walk.note.Goals as goal

pub add-requires : goal.add-requires
add-requires c =
    let is : c.args.token.now ≡ token.Attestation (attestation.Pending c.in-Attestation-Pending.uri) = search rules in
    let number : Numbers c.args.listing.now.messages c.number_at.new.messages c.args.path.now c.number_at.new.path c.args.depth (Some c.in-Some.message) =
    subst (Numbers c.args.listing.now.messages c.number_at.new.messages c.args.path.now c.number_at.new.path c.args.depth) c.in-Some.is c.in_ok-message.ensures in
    mid_kept c.args.listing.now _ c.args.path.now c.number_at.new.path c.args.token.now c.in-Attestation-Pending.uri c.args.depth c.requires.kept (refl, refl) is _ number

pub returns-in-Some : goal.returns-in-Some
returns-in-Some c =
    let is : c.args.token.now ≡ token.Attestation (attestation.Pending c.in-Attestation-Pending.uri) = search rules in
    let number : Numbers c.args.listing.now.messages c.number_at.new.messages c.args.path.now c.number_at.new.path c.args.depth (Some c.in-Some.message) =
    subst (Numbers c.args.listing.now.messages c.number_at.new.messages c.args.path.now c.number_at.new.path c.args.depth) c.in-Some.is c.in_ok-message.ensures in
    on_ok c.add.result
    (one_notes c.args.listing.now _ c.args.path.now c.number_at.new.path c.args.token.now c.in-Attestation-Pending.uri c.args.depth c.requires.kept (refl, refl) is c.in-Some.message c.add.new.listing number)
    c.add.ensures

pub returns-in-None : goal.returns-in-None
returns-in-None c =
    let is : c.args.token.now ≡ token.Attestation (attestation.Pending c.in-Attestation-Pending.uri) = search rules in
    let number : Numbers c.args.listing.now.messages c.number_at.new.messages c.args.path.now c.number_at.new.path c.args.depth None =
    subst (Numbers c.args.listing.now.messages c.number_at.new.messages c.args.path.now c.number_at.new.path c.args.depth) c.in-None.is c.in_ok-message.ensures in
    none_notes c.args.listing.now _ c.args.path.now c.number_at.new.path c.args.token.now c.in-Attestation-Pending.uri c.args.depth c.requires.kept (refl, refl) is number
