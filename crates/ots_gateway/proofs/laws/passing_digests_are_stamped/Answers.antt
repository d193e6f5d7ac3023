use Rattle.ots_http.specs.declared.word.Word.TheVariants.{Upstream}
use Rattle.ots_gateway.proofs.Lawful.{sent_whole}
use Rattle.ots_gateway.specs.Round.{below, due, in_words}
use Rattle.ots_gateway.proofs.laws.passing_digests_are_stamped.Goals as goal

pub returns-clause-stamped : goal.returns-clause-stamped
returns-clause-stamped c = λ over node i w old new served serves. sent_whole (due (below over node) i w) old new served serves.1

pub returns-clause-refused : goal.returns-clause-refused
returns-clause-refused c = λ i w old new served serves. sent_whole (in_words Upstream) old new served serves.1
