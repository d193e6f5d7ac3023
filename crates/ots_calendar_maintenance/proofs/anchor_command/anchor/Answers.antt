use Rattle.std.proofs.Common.{inl, inr, ⊎_elim, arith}
use Rattle.ots_calendar_inputs.specs.Block.{GivesBlock, RefusesBlock}
use Rattle.ots_calendar_endings.specs.With.{is_given}
use Rattle.ots_calendar_endings.proofs.Inputs.{given_ends, given_moments, input_comes, reads_given, reads_refused, stop_ends}
use Rattle.ots_calendar_endings.proofs.Running.{idle_moments, leaves, uncalled}
use Rattle.ots_calendar_maintenance.proofs.anchor_command.anchor.Goals as goal

pub anchor_in-requires : goal.anchor_in-requires
anchor_in-requires g c =
    let is = c.in-Ok.ensures.answer.2.is_block in
    record { height = c.args.asked.height_small; some = is.some; most = is.transactions.most }

pub returns-in-Ok-clause-ran : goal.returns-in-Ok-clause-ran
returns-in-Ok-clause-ran g c = record {
  ends = given_ends _ _ _ _ _ _ _ _ _ (λ e h. is_given c.in-Ok.block c.in-Ok.ensures.answer h) c.anchor_in.ensures.ends;
  moments = inl (leaves g.D.Disk.clock g.D.Disk.images_since _ _ _ (given_moments g.D.Disk.clock g.D.Disk.images_since _ _ _ _ _ _
      (λ entries added h. record { block = c.in-Ok.block; has_block = c.in-Ok.ensures.answer; adds = h }) c.anchor_in.ensures.moments));
  kept = ⊎_elim inl (λ opened. inr (leaves g.D.Disk.clock g.D.Disk.images_since _ _ _ opened)) c.anchor_in.ensures.kept;
  files = reads_given c.in-Ok.block _ c.in-Ok.ensures;
  disk = inl c.anchor_in.ensures.later;
  sink = c.anchor_in.ensures.sink.later;
}

pub returns-in-Err-clause-ran : goal.returns-in-Err-clause-ran
returns-in-Err-clause-ran g c = record {
  ends = stop_ends _ _ _ _ _ _ _ _ c.in-Err.stop (input_comes GivesBlock RefusesBlock _ _ _ _ _ _ _ c.in-Err.stop c.in-Err.ensures) c.refuse_input-status.ensures.printed;
  moments = inl (leaves g.D.Disk.clock g.D.Disk.images_since _ _ _ (idle_moments g.D.Disk.clock g.D.Disk.images_since _ _ _ _ _ (uncalled g.D.Disk.clock g.D.Disk.images g.D.Disk.images_since g.met.D.Disk.only_now c.args.disk)));
  kept = inr (leaves g.D.Disk.clock g.D.Disk.images_since _ _ _ (uncalled g.D.Disk.clock g.D.Disk.images g.D.Disk.images_since g.met.D.Disk.only_now c.args.disk));
  files = reads_refused c.in-Err.stop _ c.refuse_input-status.ensures.memory c.in-Err.ensures;
  disk = inl (omega arith);
  sink = c.refuse_input-status.ensures.sink.later;
}

pub returns-in-Ok-clause-untouched : goal.returns-in-Ok-clause-untouched
returns-in-Ok-clause-untouched g c = inr (c.in-Ok.block, c.in-Ok.ensures.answer)
