use Rattle.ots_archive_words.proofs.Built.{grown, perhaps_grown}
use Rattle.ots_archive_words.specs.Words.{app_for}
use Rattle.ots_archive_words.proofs.words.ask.Goals as goal

pub returns : goal.returns
unfolding app_for
returns c =
    let first = grown _ _ c.new.ensures.app c.required.result _ c.required.ensures.rule c.required.ensures.local _ c.in_ok-arg.ensures in
    let second = grown _ _ first c.flag.result _ c.flag.ensures.rule c.flag.ensures.local _ c.in_ok-arg-2.ensures in
    let third = grown _ _ second c.optional.result _ c.optional.ensures.rule c.optional.ensures.local _ c.in_ok-arg-3.ensures in
    let fourth = grown _ _ third c.positional.result _ c.positional.ensures.rule c.positional.ensures.local _ c.in_ok-arg-4.ensures in
    perhaps_grown _ _ fourth c.any_number.result _ c.any_number.ensures.rule c.any_number.ensures.local c.arg-5.result c.arg-5.ensures
