use Rattle.std.proofs.Common.{inl, inr, ⊎_elim, arith}
use Rattle.ots_calendar_endings.specs.With.{is_given, is_uri}
use Rattle.ots_calendar_endings.proofs.Inputs.{comes_map, given_ends, given_moments, stop_ends}
use Rattle.ots_calendar_endings.proofs.Running.{idle_moments, leaves, uncalled}
use Rattle.ots_calendar_batch.proofs.Gathering.{round_stops}
use Rattle.ots_calendar_batch.proofs.batch_command.batch.Goals as goal

pub returns-in-Ok-clause-ran : goal.returns-in-Ok-clause-ran
returns-in-Ok-clause-ran g c = record {
  ends = given_ends _ _ _ _ _ _ _ _ _
      (λ e h. is_uri c.in-Ok.round.uri c.in-Ok.ensures.answer.1 (is_given c.in-Ok.round.key c.in-Ok.ensures.answer.0.has_key (is_given c.in-Ok.round.digests.items c.in-Ok.ensures.answer.0.has_digests h))) c.batch_in.ensures.ends;
  moments = inl (leaves g.D.Disk.clock g.D.Disk.images_since _ _ _ (given_moments g.D.Disk.clock g.D.Disk.images_since _ _ _ _ _ _
      (λ entries added h. record { key = c.in-Ok.round.key; has_key = c.in-Ok.ensures.answer.0.has_key; digests = c.in-Ok.round.digests.items; has_digests = c.in-Ok.ensures.answer.0.has_digests; adds = h }) c.batch_in.ensures.moments));
  kept = ⊎_elim inl (λ opened. inr (leaves g.D.Disk.clock g.D.Disk.images_since _ _ _ opened)) c.batch_in.ensures.kept;
  files = c.in-Ok.ensures.shelf _ (λ ran. absurd ran);
  disk = inl c.batch_in.ensures.later;
  sink = c.batch_in.ensures.sink.later;
}

pub returns-in-Err-clause-ran : goal.returns-in-Err-clause-ran
returns-in-Err-clause-ran g c = record {
  ends = stop_ends _ _ _ _ _ _ _ _ c.in-Err.stop
      (comes_map _ (round_stops _ _ _ _) (λ name at. at) (λ none. absurd none) c.in-Err.ensures.answer) c.refuse_input-status.ensures.printed;
  moments = inl (leaves g.D.Disk.clock g.D.Disk.images_since _ _ _ (idle_moments g.D.Disk.clock g.D.Disk.images_since _ _ _ _ _ (uncalled g.D.Disk.clock g.D.Disk.images g.D.Disk.images_since g.met.D.Disk.only_now c.args.disk)));
  kept = inr (leaves g.D.Disk.clock g.D.Disk.images_since _ _ _ (uncalled g.D.Disk.clock g.D.Disk.images g.D.Disk.images_since g.met.D.Disk.only_now c.args.disk));
  files = c.in-Err.ensures.shelf _ c.refuse_input-status.ensures.memory;
  disk = inl (omega arith);
  sink = c.refuse_input-status.ensures.sink.later;
}

pub returns-in-Ok-clause-untouched : goal.returns-in-Ok-clause-untouched
returns-in-Ok-clause-untouched g c = inr (record {
  uri = c.in-Ok.round.uri;
  one = c.in-Ok.ensures.answer.1;
  key = c.in-Ok.round.key;
  has_key = c.in-Ok.ensures.answer.0.has_key;
  digests = c.in-Ok.round.digests.items;
  has_digests = c.in-Ok.ensures.answer.0.has_digests;
})
