use Rattle.std.proofs.Common.{inl, inr}
use Rattle.ots_journal.specs.declared.limits.TheConstants.{MAX_JOURNAL}
use Rattle.ots_calendar_endings.proofs.Inputs.{reads_nothing, unread_ends}
use Rattle.ots_calendar_endings.proofs.Running.{closed_ends, idle_moments, leaves, opened_ends, opened_kept, opened_later, opened_moments}
use Rattle.ots_calendar_maintenance.specs.Tip.{AddsTip, TipAnswers}
use Rattle.ots_calendar_maintenance.proofs.Within.{tip_within}
use Rattle.ots_calendar_maintenance.proofs.tip_command.tip.Goals as goal

pub returns-in-Ok-clause-ran : goal.returns-in-Ok-clause-ran
returns-in-Ok-clause-ran g c = record {
  ends = unread_ends _ _ _ _ _ _ _ _ (opened_ends g.D.Disk.bytes g.D.Disk.faults g.D.Disk.clock g.D.Disk.images g.D.Disk.images_since (TipAnswers MAX_JOURNAL) _ _ _ _
      c.args.disk c.in-Ok.book.store.journal c.store_tip-status.new.book.store.journal.disk c.into_disk.result c.into_disk.ensures c.in-Ok.ensures.ok
      (tip_within c.in-Ok.book.store.journal.limit MAX_JOURNAL _ _ _ _ _ _ _ _ c.in-Ok.ensures.ok.store.limit c.store_tip-status.ensures.ends));
  moments = inl (leaves g.D.Disk.clock g.D.Disk.images_since _ _ _ (opened_moments g.D.Disk.bytes g.D.Disk.faults g.D.Disk.clock g.D.Disk.images g.D.Disk.images_since AddsTip
      c.args.disk c.in-Ok.book.store.journal c.store_tip-status.new.book.store.journal.disk c.into_disk.result c.into_disk.ensures c.in-Ok.ensures.ok c.store_tip-status.ensures.moments));
  kept = inl (opened_kept g.D.Disk.bytes g.D.Disk.faults g.D.Disk.clock g.D.Disk.images g.D.Disk.images_since g.met.D.Disk.counts_now AddsTip
      c.args.disk c.in-Ok.book.store.journal c.store_tip-status.new.book.store.journal.disk c.into_disk.result c.into_disk.ensures c.in-Ok.ensures.ok.store c.store_tip-status.ensures.moments);
  files = reads_nothing _ _ _ _;
  disk = inl (opened_later g.D.Disk.faults _ _ _ _ c.into_disk.ensures c.in-Ok.ensures.ok.store.later c.store_tip-status.ensures.later);
  sink = c.store_tip-status.ensures.sink.later;
}

pub returns-in-Err-clause-ran : goal.returns-in-Err-clause-ran
returns-in-Err-clause-ran g c = record {
  ends = unread_ends _ _ _ _ _ _ _ _ (closed_ends g.D.Disk.bytes g.D.Disk.faults g.D.Disk.clock g.D.Disk.images g.D.Disk.images_since (TipAnswers MAX_JOURNAL) _ _ _ _
      c.args.disk c.in-Err.closed.disk c.in-Err.closed.why c.in-Err.ensures.err c.refuse-status.ensures.printed);
  moments = inl (leaves g.D.Disk.clock g.D.Disk.images_since _ _ _ (idle_moments g.D.Disk.clock g.D.Disk.images_since (g.D.Disk.bytes c.args.disk) _ AddsTip _ _ c.in-Err.ensures.err.such.moments));
  kept = inr (leaves g.D.Disk.clock g.D.Disk.images_since _ _ _ c.in-Err.ensures.err.such.moments);
  files = reads_nothing _ _ _ _;
  disk = inl c.in-Err.ensures.err.such.later;
  sink = c.refuse-status.ensures.sink.later;
}
