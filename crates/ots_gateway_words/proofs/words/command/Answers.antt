use Rattle.std.proofs.Common.{true, ap, ◌∙◌}
use Rattle.clap.specs.Simple.{app_of_fields, on_top}
use Rattle.ots_arguments.specs.Arguments.{simple}
use Rattle.ots_gateway_words.proofs.Built.{grown, perhaps_grown}
use Rattle.ots_gateway_words.proofs.words.command.Goals as goal

pub returns : goal.returns
unfolding simple
returns c =
    let start = ap app_of_fields c.no_binary_name.ensures ∙ ap (on_top (λ s. record s { no_binary_name = true })) c.new.ensures.app in
    let first = grown _ _ start c.required.result _ c.required.ensures.rule c.required.ensures.local _ c.in_ok-arg.ensures in
    let second = grown _ _ first c.required-2.result _ c.required-2.ensures.rule c.required-2.ensures.local _ c.in_ok-arg-2.ensures in
    let third = grown _ _ second c.required-3.result _ c.required-3.ensures.rule c.required-3.ensures.local _ c.in_ok-arg-3.ensures in
    let fourth = grown _ _ third c.required-4.result _ c.required-4.ensures.rule c.required-4.ensures.local _ c.in_ok-arg-4.ensures in
    perhaps_grown _ _ fourth c.optional.result _ c.optional.ensures.rule c.optional.ensures.local c.arg-5.result c.arg-5.ensures
