use Rattle.std.proofs.Common.{◌≡◌, ◌∙◌, ap, map, rules}
use Rattle.std.specs.Map.Iter.{deref_pair}
use Rattle.std.proofs.lemmas.Map.Iter.{iter_end}
use Rattle.ots_archive_counts.proofs.Listed.{counts_listed}
use Rattle.ots_archive_counts.specs.Counts.{counted}
use Rattle.ots_archive_counts.specs.inner.Tally.{entry}
use Rattle.ots_archive_counts.proofs.counting.counts.Goals as goal

pub returns : goal.returns
returns c =
    let all : map deref_pair c.loop-address.yielded ≡ c.in_ok-tally.tally.entries = search (rules, iter_end) in
    counts_listed c.args.replies.now c.in_ok-tally.tally (map counted c.loop-address.list.items) c.len.ensures.ordered c.in_ok-tally.ensures (c.loop-address.invariant ∙ ap (map entry) all)
