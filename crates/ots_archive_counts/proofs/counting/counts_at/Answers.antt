use Rattle.ots_archive_counts.proofs.Tallies.{counts_there, none_there}
use Rattle.ots_archive_counts.proofs.counting.counts_at.Goals as goal

pub returns-in-Some : goal.returns-in-Some
returns-in-Some c = λ seen tally. counts_there c.args.tally.now seen c.args.url.now _ tally c.in-Some.ensures.value

pub returns-in-None : goal.returns-in-None
returns-in-None c = λ seen tally. none_there c.args.tally.now seen c.args.url.now tally c.in-None.ensures.value
