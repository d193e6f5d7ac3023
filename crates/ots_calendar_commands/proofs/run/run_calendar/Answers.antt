use Rattle.std.proofs.Common.{inl, inr, refl, arith}
use Rattle.ots_calendar_endings.proofs.Inputs.{reads_nothing}
use Rattle.ots_calendar_endings.proofs.Running.{leaves, uncalled}
use Rattle.ots_calendar_commands.proofs.Following.{asked_completes, asked_ran, asked_stays, asked_survives, completes, survives, unnamed_ends, unread_ran}
use Rattle.ots_calendar_commands.proofs.run.run_calendar.Goals as goal

pub returns-in-Ok-Serve-clause-ran : goal.returns-in-Ok-Serve-clause-ran
returns-in-Ok-Serve-clause-ran g c = asked_ran _ _ (rw c.in-Ok-Serve.field-0-is at c.in-Ok-Serve.ensures) _ _ c.serve.ensures.ran

pub returns-in-Ok-Serve-clause-complete : goal.returns-in-Ok-Serve-clause-complete
returns-in-Ok-Serve-clause-complete g c = asked_completes _ _ (rw c.in-Ok-Serve.field-0-is at c.in-Ok-Serve.ensures) _ _ c.serve.ensures.ran

pub returns-in-Ok-Serve-clause-crash : goal.returns-in-Ok-Serve-clause-crash
returns-in-Ok-Serve-clause-crash g c = asked_survives _ _ (rw c.in-Ok-Serve.field-0-is at c.in-Ok-Serve.ensures) _ _ ((g.met.D.Disk g.world.𝓛 g.world.𝓜 g.world.𝓡 ((λ s x. x), (λ x. x), (λ x. x), λ x. x)).counts_now _) c.serve.ensures.ran

pub returns-in-Ok-Serve-clause-stays : goal.returns-in-Ok-Serve-clause-stays
returns-in-Ok-Serve-clause-stays g c = asked_stays _ _ (rw c.in-Ok-Serve.field-0-is at c.in-Ok-Serve.ensures) _ _ _ _ (record { untouched = c.serve.ensures.untouched; unaccepted = c.serve.ensures.accepter; undrawn = c.serve.ensures.nonces; nonce_faults = c.serve.ensures.nonce_faults })

pub returns-in-Ok-Batch-clause-ran : goal.returns-in-Ok-Batch-clause-ran
returns-in-Ok-Batch-clause-ran g c = rw c.hand_back.ensures (asked_ran _ _ (rw c.in-Ok-Batch.field-0-is at c.in-Ok-Batch.ensures) _ _ c.batch-ended.ensures.ran)

pub returns-in-Ok-Batch-clause-complete : goal.returns-in-Ok-Batch-clause-complete
returns-in-Ok-Batch-clause-complete g c = rw c.hand_back.ensures (asked_completes _ _ (rw c.in-Ok-Batch.field-0-is at c.in-Ok-Batch.ensures) _ _ c.batch-ended.ensures.ran)

pub returns-in-Ok-Batch-clause-crash : goal.returns-in-Ok-Batch-clause-crash
returns-in-Ok-Batch-clause-crash g c = rw c.hand_back.ensures (asked_survives _ _ (rw c.in-Ok-Batch.field-0-is at c.in-Ok-Batch.ensures) _ _ ((g.met.D.Disk g.world.𝓛 g.world.𝓜 g.world.𝓡 ((λ s x. x), (λ x. x), (λ x. x), λ x. x)).counts_now _) c.batch-ended.ensures.ran)

pub returns-in-Ok-Batch-clause-stays : goal.returns-in-Ok-Batch-clause-stays
returns-in-Ok-Batch-clause-stays g c = rw c.hand_back.ensures (asked_stays _ _ (rw c.in-Ok-Batch.field-0-is at c.in-Ok-Batch.ensures) _ _ _ _ (record { untouched = c.batch-ended.ensures.untouched; unaccepted = inl refl; undrawn = c.batch-ended.ensures.nonces; nonce_faults = inl c.batch-ended.ensures.nonce_faults }))

pub returns-in-Ok-Tip-clause-ran : goal.returns-in-Ok-Tip-clause-ran
returns-in-Ok-Tip-clause-ran g c = rw c.hand_back-in-Ok-Tip.ensures (asked_ran _ _ (rw c.in-Ok-Tip.field-0-is at c.in-Ok-Tip.ensures) _ _ (record { ends = unnamed_ends c.tip.ensures.ran.ends; moments = c.tip.ensures.ran.moments; kept = c.tip.ensures.ran.kept; files = reads_nothing _ _ _ _; disk = c.tip.ensures.ran.disk; sink = c.tip.ensures.ran.sink }))

pub returns-in-Ok-Tip-clause-complete : goal.returns-in-Ok-Tip-clause-complete
returns-in-Ok-Tip-clause-complete g c = rw c.hand_back-in-Ok-Tip.ensures (asked_completes _ _ (rw c.in-Ok-Tip.field-0-is at c.in-Ok-Tip.ensures) _ _ (record { ends = unnamed_ends c.tip.ensures.ran.ends; moments = c.tip.ensures.ran.moments; kept = c.tip.ensures.ran.kept; files = reads_nothing _ _ _ _; disk = c.tip.ensures.ran.disk; sink = c.tip.ensures.ran.sink }))

pub returns-in-Ok-Tip-clause-crash : goal.returns-in-Ok-Tip-clause-crash
returns-in-Ok-Tip-clause-crash g c = rw c.hand_back-in-Ok-Tip.ensures (asked_survives _ _ (rw c.in-Ok-Tip.field-0-is at c.in-Ok-Tip.ensures) _ _ ((g.met.D.Disk g.world.𝓛 g.world.𝓜 g.world.𝓡 ((λ s x. x), (λ x. x), (λ x. x), λ x. x)).counts_now _) (record { ends = unnamed_ends c.tip.ensures.ran.ends; moments = c.tip.ensures.ran.moments; kept = c.tip.ensures.ran.kept; files = reads_nothing _ _ _ _; disk = c.tip.ensures.ran.disk; sink = c.tip.ensures.ran.sink }))

pub returns-in-Ok-Tip-clause-stays : goal.returns-in-Ok-Tip-clause-stays
returns-in-Ok-Tip-clause-stays g c = rw c.hand_back-in-Ok-Tip.ensures (asked_stays _ _ (rw c.in-Ok-Tip.field-0-is at c.in-Ok-Tip.ensures) _ _ _ _ (record { untouched = inr tt; unaccepted = inl refl; undrawn = inl refl; nonce_faults = inl (omega arith) }))

pub returns-in-Ok-Anchor-clause-ran : goal.returns-in-Ok-Anchor-clause-ran
returns-in-Ok-Anchor-clause-ran g c = rw c.hand_back-in-Ok-Anchor.ensures (asked_ran _ _ (rw c.in-Ok-Anchor.field-0-is at c.in-Ok-Anchor.ensures) _ _ c.anchor.ensures.ran)

pub returns-in-Ok-Anchor-clause-complete : goal.returns-in-Ok-Anchor-clause-complete
returns-in-Ok-Anchor-clause-complete g c = rw c.hand_back-in-Ok-Anchor.ensures (asked_completes _ _ (rw c.in-Ok-Anchor.field-0-is at c.in-Ok-Anchor.ensures) _ _ c.anchor.ensures.ran)

pub returns-in-Ok-Anchor-clause-crash : goal.returns-in-Ok-Anchor-clause-crash
returns-in-Ok-Anchor-clause-crash g c = rw c.hand_back-in-Ok-Anchor.ensures (asked_survives _ _ (rw c.in-Ok-Anchor.field-0-is at c.in-Ok-Anchor.ensures) _ _ ((g.met.D.Disk g.world.𝓛 g.world.𝓜 g.world.𝓡 ((λ s x. x), (λ x. x), (λ x. x), λ x. x)).counts_now _) c.anchor.ensures.ran)

pub returns-in-Ok-Anchor-clause-stays : goal.returns-in-Ok-Anchor-clause-stays
returns-in-Ok-Anchor-clause-stays g c = rw c.hand_back-in-Ok-Anchor.ensures (asked_stays _ _ (rw c.in-Ok-Anchor.field-0-is at c.in-Ok-Anchor.ensures) _ _ _ _ (record { untouched = c.anchor.ensures.untouched; unaccepted = inl refl; undrawn = inl refl; nonce_faults = inl (omega arith) }))

pub returns-in-Ok-List-clause-ran : goal.returns-in-Ok-List-clause-ran
returns-in-Ok-List-clause-ran g c = rw c.hand_back-in-Ok-List.ensures (asked_ran _ _ (rw c.in-Ok-List.field-0-is at c.in-Ok-List.ensures) _ _ (record { ends = unnamed_ends c.list.ensures.ran.ends; moments = c.list.ensures.ran.moments; kept = c.list.ensures.ran.kept; files = reads_nothing _ _ _ _; disk = c.list.ensures.ran.disk; sink = c.list.ensures.ran.sink }))

pub returns-in-Ok-List-clause-complete : goal.returns-in-Ok-List-clause-complete
returns-in-Ok-List-clause-complete g c = rw c.hand_back-in-Ok-List.ensures (asked_completes _ _ (rw c.in-Ok-List.field-0-is at c.in-Ok-List.ensures) _ _ (record { ends = unnamed_ends c.list.ensures.ran.ends; moments = c.list.ensures.ran.moments; kept = c.list.ensures.ran.kept; files = reads_nothing _ _ _ _; disk = c.list.ensures.ran.disk; sink = c.list.ensures.ran.sink }))

pub returns-in-Ok-List-clause-crash : goal.returns-in-Ok-List-clause-crash
returns-in-Ok-List-clause-crash g c = rw c.hand_back-in-Ok-List.ensures (asked_survives _ _ (rw c.in-Ok-List.field-0-is at c.in-Ok-List.ensures) _ _ ((g.met.D.Disk g.world.𝓛 g.world.𝓜 g.world.𝓡 ((λ s x. x), (λ x. x), (λ x. x), λ x. x)).counts_now _) (record { ends = unnamed_ends c.list.ensures.ran.ends; moments = c.list.ensures.ran.moments; kept = c.list.ensures.ran.kept; files = reads_nothing _ _ _ _; disk = c.list.ensures.ran.disk; sink = c.list.ensures.ran.sink }))

pub returns-in-Ok-List-clause-stays : goal.returns-in-Ok-List-clause-stays
returns-in-Ok-List-clause-stays g c = rw c.hand_back-in-Ok-List.ensures (asked_stays _ _ (rw c.in-Ok-List.field-0-is at c.in-Ok-List.ensures) _ _ _ _ (record { untouched = inr tt; unaccepted = inl refl; undrawn = inl refl; nonce_faults = inl (omega arith) }))

pub returns-in-Ok-Migrate-clause-ran : goal.returns-in-Ok-Migrate-clause-ran
returns-in-Ok-Migrate-clause-ran g c = rw c.hand_back-in-Ok-Migrate.ensures (asked_ran _ _ (rw c.in-Ok-Migrate.field-0-is at c.in-Ok-Migrate.ensures) _ _ c.migrate.ensures.ran)

pub returns-in-Ok-Migrate-clause-complete : goal.returns-in-Ok-Migrate-clause-complete
returns-in-Ok-Migrate-clause-complete g c = rw c.hand_back-in-Ok-Migrate.ensures (asked_completes _ _ (rw c.in-Ok-Migrate.field-0-is at c.in-Ok-Migrate.ensures) _ _ c.migrate.ensures.ran)

pub returns-in-Ok-Migrate-clause-crash : goal.returns-in-Ok-Migrate-clause-crash
returns-in-Ok-Migrate-clause-crash g c = rw c.hand_back-in-Ok-Migrate.ensures (asked_survives _ _ (rw c.in-Ok-Migrate.field-0-is at c.in-Ok-Migrate.ensures) _ _ ((g.met.D.Disk g.world.𝓛 g.world.𝓜 g.world.𝓡 ((λ s x. x), (λ x. x), (λ x. x), λ x. x)).counts_now _) c.migrate.ensures.ran)

pub returns-in-Ok-Migrate-clause-stays : goal.returns-in-Ok-Migrate-clause-stays
returns-in-Ok-Migrate-clause-stays g c = rw c.hand_back-in-Ok-Migrate.ensures (asked_stays _ _ (rw c.in-Ok-Migrate.field-0-is at c.in-Ok-Migrate.ensures) _ _ _ _ (record { untouched = c.migrate.ensures.untouched; unaccepted = inl refl; undrawn = inl refl; nonce_faults = inl (omega arith) }))

pub returns-in-Err-clause-ran : goal.returns-in-Err-clause-ran
returns-in-Err-clause-ran g c = rw c.hand_back-in-Err.ensures (unread_ran c.in-Err.why _ _ _ c.in-Err.ensures (rw c.status_of.ensures at c.refuse-status.ensures.printed) (leaves g.D.Disk.clock g.D.Disk.images_since _ _ _ (uncalled g.D.Disk.clock g.D.Disk.images g.D.Disk.images_since (g.met.D.Disk g.world.𝓛 g.world.𝓜 g.world.𝓡 ((λ s x. x), (λ x. x), (λ x. x), λ x. x)).only_now c.args.disk)) (reads_nothing _ _ _ _) (omega arith) c.refuse-status.ensures.sink.later)

pub returns-in-Err-clause-complete : goal.returns-in-Err-clause-complete
returns-in-Err-clause-complete g c = rw c.hand_back-in-Err.ensures (completes _ _ _ _ (unread_ran c.in-Err.why _ _ _ c.in-Err.ensures (rw c.status_of.ensures at c.refuse-status.ensures.printed) (leaves g.D.Disk.clock g.D.Disk.images_since _ _ _ (uncalled g.D.Disk.clock g.D.Disk.images g.D.Disk.images_since (g.met.D.Disk g.world.𝓛 g.world.𝓜 g.world.𝓡 ((λ s x. x), (λ x. x), (λ x. x), λ x. x)).only_now c.args.disk)) (reads_nothing _ _ _ _) (omega arith) c.refuse-status.ensures.sink.later))

pub returns-in-Err-clause-crash : goal.returns-in-Err-clause-crash
returns-in-Err-clause-crash g c = rw c.hand_back-in-Err.ensures (survives _ _ c.refuse-status.result ((g.met.D.Disk g.world.𝓛 g.world.𝓜 g.world.𝓡 ((λ s x. x), (λ x. x), (λ x. x), λ x. x)).counts_now _) (unread_ran c.in-Err.why _ _ _ c.in-Err.ensures (rw c.status_of.ensures at c.refuse-status.ensures.printed) (leaves g.D.Disk.clock g.D.Disk.images_since _ _ _ (uncalled g.D.Disk.clock g.D.Disk.images g.D.Disk.images_since (g.met.D.Disk g.world.𝓛 g.world.𝓜 g.world.𝓡 ((λ s x. x), (λ x. x), (λ x. x), λ x. x)).only_now c.args.disk)) (reads_nothing _ _ _ _) (omega arith) c.refuse-status.ensures.sink.later))

pub returns-in-Err-clause-stays : goal.returns-in-Err-clause-stays
returns-in-Err-clause-stays g c = rw c.hand_back-in-Err.ensures (record { untouched = inl refl; unaccepted = inl refl; undrawn = inl refl; nonce_faults = inl (omega arith) })

pub returns-in-Ok-Serve-clause-acknowledged : goal.returns-in-Ok-Serve-clause-acknowledged
returns-in-Ok-Serve-clause-acknowledged g c = c.serve.ensures.acknowledged

pub returns-in-Ok-Batch-clause-acknowledged : goal.returns-in-Ok-Batch-clause-acknowledged
returns-in-Ok-Batch-clause-acknowledged g c = rw c.hand_back.ensures (inl refl)

pub returns-in-Ok-Tip-clause-acknowledged : goal.returns-in-Ok-Tip-clause-acknowledged
returns-in-Ok-Tip-clause-acknowledged g c = rw c.hand_back-in-Ok-Tip.ensures (inl refl)

pub returns-in-Ok-Anchor-clause-acknowledged : goal.returns-in-Ok-Anchor-clause-acknowledged
returns-in-Ok-Anchor-clause-acknowledged g c = rw c.hand_back-in-Ok-Anchor.ensures (inl refl)

pub returns-in-Ok-List-clause-acknowledged : goal.returns-in-Ok-List-clause-acknowledged
returns-in-Ok-List-clause-acknowledged g c = rw c.hand_back-in-Ok-List.ensures (inl refl)

pub returns-in-Ok-Migrate-clause-acknowledged : goal.returns-in-Ok-Migrate-clause-acknowledged
returns-in-Ok-Migrate-clause-acknowledged g c = rw c.hand_back-in-Ok-Migrate.ensures (inl refl)

pub returns-in-Err-clause-acknowledged : goal.returns-in-Err-clause-acknowledged
returns-in-Err-clause-acknowledged g c = rw c.hand_back-in-Err.ensures (inl refl)
