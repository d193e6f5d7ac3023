use Rattle.std.proofs.Common.{ap, inl, inr, arith}
use Rattle.ots_disk.specs.Moments.{started}
use Rattle.ots_store.specs.Store.{StoreTold}
use Rattle.ots_calendar_endings.specs.Moments.{AddsNothing}
use Rattle.ots_calendar_endings.proofs.Inputs.{reads_nothing, unread_ends}
use Rattle.ots_calendar_endings.proofs.Running.{closed_ends, idle_moments, leaves, opened_ends, opened_kept, opened_later, opened_moments}
use Rattle.ots_calendar_maintenance.specs.List.{ListAnswers}
use Rattle.ots_calendar_maintenance.proofs.Within.{list_ends}
use Rattle.ots_calendar_maintenance.proofs.list_command.list.Goals as goal

pub returns-in-Ok-clause-ran : goal.returns-in-Ok-clause-ran
returns-in-Ok-clause-ran g c = record {
  ends = unread_ends _ _ _ _ _ _ _ _ (opened_ends g.D.Disk.bytes g.D.Disk.faults g.D.Disk.clock g.D.Disk.images g.D.Disk.images_since ListAnswers _ _ _ _
      c.args.disk c.in-Ok.book.store.journal c.in-Ok.book.store.journal.disk c.into_disk.result c.into_disk.ensures c.in-Ok.ensures.ok
      (list_ends c.in-Ok.book.store.journal.gate c.in-Ok.book.store.journal.entries c.store.result.now.journal.entries _ _ _ _ _ _
      (ap (λ (s : StoreTold g.row.D.Denot). s.journal.entries) c.store.ensures) c.in-Ok.ensures.ok.store.each c.print_records-status.ensures.printed));
  moments = inl (leaves g.D.Disk.clock g.D.Disk.images_since _ _ _ (opened_moments g.D.Disk.bytes g.D.Disk.faults g.D.Disk.clock g.D.Disk.images g.D.Disk.images_since AddsNothing
      c.args.disk c.in-Ok.book.store.journal c.in-Ok.book.store.journal.disk c.into_disk.result c.into_disk.ensures c.in-Ok.ensures.ok
      (started g.D.Disk.clock g.D.Disk.images_since c.in-Ok.book.store.journal.disk _ (λ b left. inl (c.in-Ok.ensures.ok.store.each b (g.met.D.Disk.only_now _ b left))))));
  kept = inl (opened_kept g.D.Disk.bytes g.D.Disk.faults g.D.Disk.clock g.D.Disk.images g.D.Disk.images_since g.met.D.Disk.counts_now AddsNothing
      c.args.disk c.in-Ok.book.store.journal c.in-Ok.book.store.journal.disk c.into_disk.result c.into_disk.ensures c.in-Ok.ensures.ok.store (started g.D.Disk.clock g.D.Disk.images_since c.in-Ok.book.store.journal.disk _ (λ b left. inl (c.in-Ok.ensures.ok.store.each b (g.met.D.Disk.only_now _ b left)))));
  files = reads_nothing _ _ _ _;
  disk = inl (opened_later g.D.Disk.faults _ c.in-Ok.book.store.journal.disk _ _ c.into_disk.ensures c.in-Ok.ensures.ok.store.later (omega arith));
  sink = c.print_records-status.ensures.sink.later;
}

pub returns-in-Err-clause-ran : goal.returns-in-Err-clause-ran
returns-in-Err-clause-ran g c = record {
  ends = unread_ends _ _ _ _ _ _ _ _ (closed_ends g.D.Disk.bytes g.D.Disk.faults g.D.Disk.clock g.D.Disk.images g.D.Disk.images_since ListAnswers _ _ _ _
      c.args.disk c.in-Err.closed.disk c.in-Err.closed.why c.in-Err.ensures.err c.refuse-status.ensures.printed);
  moments = inl (leaves g.D.Disk.clock g.D.Disk.images_since _ _ _ (idle_moments g.D.Disk.clock g.D.Disk.images_since (g.D.Disk.bytes c.args.disk) _ AddsNothing _ _ c.in-Err.ensures.err.such.moments));
  kept = inr (leaves g.D.Disk.clock g.D.Disk.images_since _ _ _ c.in-Err.ensures.err.such.moments);
  files = reads_nothing _ _ _ _;
  disk = inl c.in-Err.ensures.err.such.later;
  sink = c.refuse-status.ensures.sink.later;
}
