use Rattle.std.proofs.Common.{◌≡◌, ◌∙◌, ◌++◌, List, ℕ, ap, sym, subst}
use Rattle.std.specs.Prelude.{codes}
use Rattle.ots_attest.specs.Uri.{IsUri}
use Rattle.ots_attest.specs.declared.uri.UriError.TheVariants.{BadChar, OutOfMemory, TooLong}
use Rattle.ots_draft.proofs.PostUris.{never_refused, post_uri_is}
use Rattle.ots_draft.specs.Draft.{post_uri}
use Rattle.ots_draft.proofs.address.post_uri.Goals as goal

pub unreachable-requires : goal.unreachable-requires
unreachable-requires c =
    let url = c.args.url.now in
    let same : c.as_str.result.now ≡ post_uri url.text =
    c.as_str.ensures.value ∙ c.in_ok-push_str.ensures.bytes ∙ (λ i. c.in_ok-text.ensures.ok i ++ c.text.ensures.text i) in
    let fits : IsUri c.as_str.result.now = subst IsUri (sym same) (post_uri_is url.text url.scheme c.text.ensures.url) in
    never_refused c.new.result c.as_str.result.now c.in-Err-TooLong.field-0 c.new.ensures.value fits c.in-Err-TooLong.is
    (λ ran. let clash : TooLong c.in-Err-TooLong.field-0-0 ≡ OutOfMemory = sym c.in-Err-TooLong.field-0-is ∙ ran in absurd cc)

pub unreachable-requires-in-Err-BadChar : goal.unreachable-requires-in-Err-BadChar
unreachable-requires-in-Err-BadChar c =
    let url = c.args.url.now in
    let same : c.as_str.result.now ≡ post_uri url.text =
    c.as_str.ensures.value ∙ c.in_ok-push_str.ensures.bytes ∙ (λ i. c.in_ok-text.ensures.ok i ++ c.text.ensures.text i) in
    let fits : IsUri c.as_str.result.now = subst IsUri (sym same) (post_uri_is url.text url.scheme c.text.ensures.url) in
    never_refused c.new.result c.as_str.result.now c.in-Err-BadChar.field-0 c.new.ensures.value fits c.in-Err-BadChar.is
    (λ ran. let clash : BadChar c.in-Err-BadChar.field-0-0 ≡ OutOfMemory = sym c.in-Err-BadChar.field-0-is ∙ ran in absurd cc)
