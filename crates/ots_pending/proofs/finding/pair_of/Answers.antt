use Rattle.std.proofs.Common.{rules, ◌≡◌, ◌∙◌, List, ℕ, None, subst}
use Rattle.ots_attest.specs.declared.attestation.Attestation.TheVariants as attestation
use Rattle.ots_tree.specs.declared.token.Token.TheVariants as token
use Rattle.ots_pending.specs.Distinct.{IsPlaceOf}
use Rattle.ots_pending.specs.Grown.{IsKnownAt}
use Rattle.ots_pending.specs.OnPath.{HasNumber}
use Rattle.ots_pending.proofs.FoundPairs.{unknown_pair, found_pair}
use Rattle.ots_pending.proofs.finding.pair_of.Goals as goal

pub returns-in_default-2-clause-pair : goal.returns-in_default-2-clause-pair
returns-in_default-2-clause-pair c =
    let is : c.args.token.now ≡ token.Attestation (attestation.Pending c.in-Attestation-Pending.uri) = search rules in
    let unknown : IsKnownAt c.args.listing.now.messages c.args.path.now.messages c.args.depth None =
    subst (IsKnownAt c.args.listing.now.messages c.args.path.now.messages c.args.depth) c.in_default-2.is c.in_ok-message.ensures.number in
    unknown_pair c.args.listing.now c.requires.kept c.args.token.now c.in-Attestation-Pending.uri c.args.depth c.args.path.now.messages is unknown

pub returns-clause-pair : goal.returns-clause-pair
returns-clause-pair c =
    let is : c.args.token.now ≡ token.Attestation (attestation.Pending c.in-Attestation-Pending.uri) = search rules in
    let found : HasNumber c.args.listing.now.messages c.args.path.now.messages c.args.depth c.in-Some.message =
    subst (IsKnownAt c.args.listing.now.messages c.args.path.now.messages c.args.depth) c.in-Some.is c.in_ok-message.ensures.number in
    found_pair c.args.listing.now c.requires.kept c.args.token.now c.in-Attestation-Pending.uri c.args.depth c.args.path.now.messages is c.in-Some.message c.key_of.ensures.fits
    found c.place.result
    (subst (λ (z : List ℕ). IsPlaceOf c.args.listing.now.keys z c.place.result) (c.deref.ensures.value ∙ c.in_ok-key.ensures.is) c.place.ensures)
