use Rattle.std.proofs.Common.{inl, inr, ⊎_elim, arith}
use Rattle.ots_calendar_words.specs.Words.{read_serving}
use Rattle.ots_calendar_endings.specs.With.{is_given, is_uri}
use Rattle.ots_calendar_endings.proofs.Inputs.{comes_map, given_ends, stop_ends}
use Rattle.ots_calendar_endings.proofs.Running.{idle_moments, leaves, uncalled}
use Rattle.ots_calendar_serve.proofs.Serving.{is_service, no_fewer, service_stops}
use Rattle.ots_calendar_serve.proofs.serve_command.serve.Goals as goal

pub returns-in-Ok-clause-ran : goal.returns-in-Ok-clause-ran
returns-in-Ok-clause-ran g c = record {
  ends = given_ends _ _ _ _ _ _ _ _ _
      (λ e h. is_uri c.in-Ok.service.uri c.in-Ok.ensures.answer.0 (is_given c.in-Ok.service.key c.in-Ok.ensures.answer.1 h)) c.serve_on.ensures.ends;
  moments = ⊎_elim (λ opened. inl (leaves g.D.Disk.clock g.D.Disk.images_since _ _ _ (idle_moments g.D.Disk.clock g.D.Disk.images_since _ _ _ _ _ opened))) (λ served. inr (is_service _ (read_serving c.args.asked) c.in-Ok.service c.in-Ok.ensures.answer, served.0)) c.serve_on.ensures.moments;
  kept = ⊎_elim (λ opened. inr (leaves g.D.Disk.clock g.D.Disk.images_since _ _ _ opened)) (λ served. inl served.1) c.serve_on.ensures.moments;
  files = c.in-Ok.ensures.shelf _ (λ ran. absurd ran);
  disk = ⊎_elim (λ same. inl same.2) (λ book. inr (is_service _ (read_serving c.args.asked) c.in-Ok.service c.in-Ok.ensures.answer, book)) c.serve_on.ensures.stays;
  sink = c.serve_on.ensures.sink.later;
}

pub returns-in-Ok-clause-untouched : goal.returns-in-Ok-clause-untouched
returns-in-Ok-clause-untouched g c = inr (is_service _ (read_serving c.args.asked) c.in-Ok.service c.in-Ok.ensures.answer)

pub returns-in-Ok-clause-accepter : goal.returns-in-Ok-clause-accepter
returns-in-Ok-clause-accepter g c = ⊎_elim (λ same. inl same.0) (λ book. inr (is_service _ (read_serving c.args.asked) c.in-Ok.service c.in-Ok.ensures.answer, book)) c.serve_on.ensures.stays

pub returns-in-Ok-clause-nonces : goal.returns-in-Ok-clause-nonces
returns-in-Ok-clause-nonces g c = ⊎_elim (λ same. inl same.1) (λ book. inr (is_service _ (read_serving c.args.asked) c.in-Ok.service c.in-Ok.ensures.answer, book)) c.serve_on.ensures.stays

pub returns-in-Ok-clause-nonce_faults : goal.returns-in-Ok-clause-nonce_faults
returns-in-Ok-clause-nonce_faults g c = ⊎_elim (λ same. inl (no_fewer g.N.Nonces.faults _ _ same.1)) (λ book. inr (is_service _ (read_serving c.args.asked) c.in-Ok.service c.in-Ok.ensures.answer, book)) c.serve_on.ensures.stays

pub returns-in-Err-clause-ran : goal.returns-in-Err-clause-ran
returns-in-Err-clause-ran g c = record {
  ends = stop_ends _ _ _ _ _ _ _ _ c.in-Err.stop
      (comes_map _ (service_stops _ (read_serving c.args.asked) _ _) (λ name at. at) (λ none. absurd none) c.in-Err.ensures.answer) c.refuse_input-status.ensures.printed;
  moments = inl (leaves g.D.Disk.clock g.D.Disk.images_since _ _ _ (idle_moments g.D.Disk.clock g.D.Disk.images_since _ _ _ _ _ (uncalled g.D.Disk.clock g.D.Disk.images g.D.Disk.images_since
      (g.met.D.Disk g.world.𝓛 g.world.𝓜 g.world.𝓡 ((λ s x. x), (λ x. x), (λ x. x), λ x. x)).only_now c.args.disk)));
  kept = inr (leaves g.D.Disk.clock g.D.Disk.images_since _ _ _ (uncalled g.D.Disk.clock g.D.Disk.images g.D.Disk.images_since (g.met.D.Disk g.world.𝓛 g.world.𝓜 g.world.𝓡 ((λ s x. x), (λ x. x), (λ x. x), λ x. x)).only_now c.args.disk));
  files = c.in-Err.ensures.shelf _ c.refuse_input-status.ensures.memory;
  disk = inl (omega arith);
  sink = c.refuse_input-status.ensures.sink.later;
}
