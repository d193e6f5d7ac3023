use Rattle.std.proofs.Common.{◌≡◌, string_bytes, rules, ◌∙◌}
use Rattle.ots_stamping.proofs.OneStamp.{renamed, renamed_acts, stamp_carried, stamp_too_long}
use Rattle.ots_stamping.proofs.write_stamps.make_stamp.Goals as goal

pub returns-then-is_too_long-clause-made : goal.returns-then-is_too_long-clause-made
returns-then-is_too_long-clause-made g c =
    let same : c.deref.result.now ≡ string_bytes c.in-Ok.made.0 = search rules in
    stamp_too_long _ _ _ _ _ _ _ _ _ _ _ _ c.in-Ok.ensures.proof (c.is_too_long.ensures.0 c.if-is_too_long.true)
    (renamed _ _ _ _ _ _ _ (same ∙ c.in-Ok.ensures.name) c.refuse.ensures.printed)

pub returns-clause-made : goal.returns-clause-made
returns-clause-made g c =
    let same : c.deref-2.result.now ≡ string_bytes c.in-Ok.made.0 = search rules in
    stamp_carried _ _ _ _ c.in-Ok.ensures.proof _ _ _ _ _ _ _ _ _ _ (c.written_file.ensures.reads (search rules))
    (renamed_acts _ _ _ _ _ _ _ _ _ _ _ _ _ (same ∙ c.in-Ok.ensures.name) c.name-name.ensures c.make_and_tell.ensures.made)
