use Rattle.std.proofs.Common.{◌∷◌, [], ◌++◌, sym, ap, ◌∙◌, map, take}
use Rattle.std.proofs.lemmas.List.{map-append}
use Rattle.ots_archive_steps.proofs.Items.{up_to}
use Rattle.ots_archive_steps.specs.Entries.{entries_of, entry_as}
use Rattle.ots_archive_take.specs.Names.{made_name}
use Rattle.ots_archive_take.proofs.names.made_names.Goals as goal

pub loop-index-preserved : goal.loop-index-preserved
loop-index-preserved c =
    c.in_ok-push.ensures.items ∙ (λ i. c.loop-index.invariant i ++ c.in_ok-name_of.ensures i ∷ [])
    ∙ sym (ap (map (made_name c.args.into.now)) (up_to (entries_of c.args.entries.now) c.loop-index.index (entry_as c.get.result) c.get.ensures)
    ∙ map-append (made_name c.args.into.now) (take c.loop-index.index (entries_of c.args.entries.now)) (entry_as c.get.result ∷ []))
