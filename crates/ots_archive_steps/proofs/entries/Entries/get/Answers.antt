use Rattle.std.proofs.Common.{subst, ap, ◌∙◌, ◌<◌, length}
use Rattle.std.proofs.lemmas.Option.{slice_get-map}
use Rattle.std.specs.Option.{option_map}
use Rattle.ots_archive_steps.proofs.Listed.{word_at}
use Rattle.ots_archive_steps.specs.Entries.{entries_of, line}
use Rattle.ots_sums.specs.Sums.{names}
use Rattle.ots_archive_steps.proofs.entries.Entries.get.Goals as goal

pub returns-in-Words : goal.returns-in-Words
returns-in-Words c = rw c.in-Words.is (word_at c.in-Words.words.items c.args.index c.index.result.now (subst (λ z. c.args.index < length (entries_of z)) c.in-Words.is c.requires) c.index.ensures)

pub returns-in-Lines : goal.returns-in-Lines
returns-in-Lines c = rw c.in-Lines.is (slice_get-map line (names c.in-Lines.sums) c.args.index ∙ ap (option_map line) c.name.ensures)
