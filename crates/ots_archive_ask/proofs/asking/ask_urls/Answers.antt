use Rattle.ots_archive_steps.specs.Entries.{entries_of}
use Rattle.ots_archive_ask.proofs.Files.{few_entries}
use Rattle.ots_archive_ask.proofs.asking.ask_urls.Goals as goal

pub ask_proofs-requires-clause-few : goal.ask_proofs-requires-clause-few
ask_proofs-requires-clause-few g c = few_entries c.args.asked.names _ _ (entries_of c.in-Ok.entries) c.requires.few c.in-Ok.ensures
