use Rattle.std.proofs.Common.{inl, inr, ⊎_elim, arith}
use Rattle.std.specs.Prelude.{Vec}
use Rattle.ots_journal.specs.declared.entry.Entry.{Entry}
use Rattle.std.specs.declared.alloc.Global.{Global}
use Rattle.ots_calendar_inputs.specs.Old.{AreOldEntries, RefusesOld}
use Rattle.ots_calendar_endings.specs.With.{is_given}
use Rattle.ots_calendar_endings.proofs.Inputs.{comes_map, given_ends, given_moments, input_comes, reads_given, reads_refused, stop_ends}
use Rattle.ots_calendar_endings.proofs.Running.{idle_moments, leaves, uncalled}
use Rattle.ots_calendar_maintenance.proofs.Migrating.{as_old}
use Rattle.ots_calendar_maintenance.proofs.migrate_command.migrate.Goals as goal

pub returns-in-Ok-clause-ran : goal.returns-in-Ok-clause-ran
returns-in-Ok-clause-ran g c = record {
  ends = given_ends _ _ _ _ _ _ _ _ _ (λ e h. is_given c.in-Ok.old.items c.in-Ok.ensures.answer h) (rw c.deref.ensures.value at c.migrate_to.ensures.ends);
  moments = inl (leaves g.D.Disk.clock g.D.Disk.images_since _ _ _ (given_moments g.D.Disk.clock g.D.Disk.images_since _ _ _ _ _ _
      (λ entries added h. record { old = c.in-Ok.old.items; has_old = c.in-Ok.ensures.answer; adds = h }) (rw c.deref.ensures.value at c.migrate_to.ensures.moments)));
  kept = ⊎_elim inl (λ opened. inr (leaves g.D.Disk.clock g.D.Disk.images_since _ _ _ opened)) c.migrate_to.ensures.kept;
  files = reads_given c.in-Ok.old _ c.in-Ok.ensures;
  disk = inl c.migrate_to.ensures.later;
  sink = c.migrate_to.ensures.sink.later;
}

pub returns-in-Err-clause-ran : goal.returns-in-Err-clause-ran
returns-in-Err-clause-ran g c = record {
  ends = stop_ends _ _ _ _ _ _ _ _ c.in-Err.stop
      (comes_map _ (as_old _ _ _ _) (λ name at. at) (λ rose. rose) (input_comes {A = Vec Entry Global} AreOldEntries RefusesOld (λ x e. ⊥) _ _ _ _ _ _ c.in-Err.stop c.in-Err.ensures)) c.refuse_input-status.ensures.printed;
  moments = inl (leaves g.D.Disk.clock g.D.Disk.images_since _ _ _ (idle_moments g.D.Disk.clock g.D.Disk.images_since _ _ _ _ _ (uncalled g.D.Disk.clock g.D.Disk.images g.D.Disk.images_since g.met.D.Disk.only_now c.args.disk)));
  kept = inr (leaves g.D.Disk.clock g.D.Disk.images_since _ _ _ (uncalled g.D.Disk.clock g.D.Disk.images g.D.Disk.images_since g.met.D.Disk.only_now c.args.disk));
  files = reads_refused c.in-Err.stop _ c.refuse_input-status.ensures.memory c.in-Err.ensures;
  disk = inl (omega arith);
  sink = c.refuse_input-status.ensures.sink.later;
}

pub returns-in-Ok-clause-untouched : goal.returns-in-Ok-clause-untouched
returns-in-Ok-clause-untouched g c = inr (c.in-Ok.old.items, c.in-Ok.ensures.answer)
