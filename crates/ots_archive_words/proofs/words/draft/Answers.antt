use Rattle.ots_archive_words.proofs.Built.{grown, perhaps_grown}
use Rattle.ots_archive_words.specs.Words.{app_for}
use Rattle.ots_archive_words.proofs.words.draft.Goals as goal

pub returns : goal.returns
unfolding app_for
returns c =
    let first = grown _ _ c.new.ensures.app c.required.result _ c.required.ensures.rule c.required.ensures.local _ c.in_ok-arg.ensures in
    let second = grown _ _ first c.optional.result _ c.optional.ensures.rule c.optional.ensures.local _ c.in_ok-arg-2.ensures in
    perhaps_grown _ _ second c.any_number.result _ c.any_number.ensures.rule c.any_number.ensures.local c.arg-3.result c.arg-3.ensures
