use Rattle.std.proofs.Common.{◌∙◌, ap}
use Rattle.ots_archive_counts.proofs.Tallies.{small, tally_more}
use Rattle.ots_archive_counts.specs.inner.Tally.{one_more}
use Rattle.ots_archive_text.specs.declared.lines.ReplyCounts.{ReplyCounts}
use Rattle.ots_archive_counts.proofs.counting.add.Goals as goal

pub one_more-requires : goal.one_more-requires
one_more-requires c = small c.args.tally.now c.requires c.args.url.now c.counts_at-before.result (c.counts_at-before.ensures c.requires.seen c.requires.tally)

pub returns : goal.returns
returns c = λ seen tally.
    tally_more c.args.tally.now c.insert.new.self c.args.url c.one_more.result c.args.came seen c.in_ok-insert.ensures.updates
    (c.one_more.ensures ∙ ap (λ (z : ReplyCounts). one_more z c.args.came) (c.counts_at-before.ensures seen tally)) tally
