use Rattle.std.proofs.Common.{inl, sym}
use Rattle.ots_journal.specs.Within.{joined_within}
use Rattle.ots_journal.proofs.Standing.{at_ok}
use Rattle.ots_journal.proofs.journal.Journal.append.Goals as goal

pub returns-clause-appends : goal.returns-clause-appends
returns-clause-appends g c = inl (record {
  mid = c.refresh.new.self;
  refreshed = at_ok c.refresh.result (sym c.if-is_err.ensures.value) c.refresh.ensures.ok;
  refreshing = c.refresh.ensures.any_moment;
  puts = c.put_entry-outcome.ensures.puts;
})

pub returns-clause-within : goal.returns-clause-within
returns-clause-within g c =
    let refreshed = at_ok c.refresh.result (sym c.if-is_err.ensures.value) c.refresh.ensures.ok in
    joined_within g.D.Disk.clock g.D.Disk.images_since c.args.self.now c.refresh.new.self c.put_entry-outcome.new.self c.refresh.ensures.within refreshed.limit c.put_entry-outcome.ensures.within
