use Rattle.std.proofs.Common.{ℕ, List, [], length, take, drop, ap, subst, ◌+◌, ◌∙◌}
use Rattle.std.proofs.lemmas.List.{length-map, take_all}
use Rattle.ots_ops.proofs.AppliedLength.{length_of_hashed}
use Rattle.ots_ops.specs.declared.hash_op.HashOp.TheVariants.{Sha256}
use Rattle.ots_arguments.specs.Values.{texts}
use Rattle.ots_client_endings.proofs.Reading.{named, named_stop, reads_into, reads_none, runs_short}
use Rattle.ots_client_inputs.proofs.Inputs.{a_target}
use Rattle.ots_stamping.proofs.Hashed.{Hashes, all_texts, are_sha256, as_many, first_texts, hashes_next, hashes_short, hashes_stop}
use Rattle.ots_stamping.proofs.hashing.hash_targets.Goals as goal

pub loop-name-init : goal.loop-name-init
loop-name-init g c = rw c.in_ok-digests.ensures.items (reads_none tt)

pub returns-in_err-digests-clause-reads : goal.returns-in_err-digests-clause-reads
returns-in_err-digests-clause-reads g c = runs_short _ c.from_residual.ensures.1

pub returns-in-Err-clause-reads : goal.returns-in-Err-clause-reads
returns-in-Err-clause-reads g c = rw (all_texts c.args.names.now c.loop-name.name-index (record { ref_ptr = (0, 0); now = [] }) c.loop-name-test.true)
    (hashes_stop (texts (drop (c.loop-name.name-index + 1) c.args.names.now)) c.loop-name.invariant (named_stop (a_target _ Sha256) c.in-Err.ensures.reads))

pub returns-in_err-push-in-Ok-clause-reads : goal.returns-in_err-push-in-Ok-clause-reads
returns-in_err-push-in-Ok-clause-reads g c = rw (all_texts c.args.names.now c.loop-name.name-index (record { ref_ptr = (0, 0); now = [] }) c.loop-name-test.true)
    (hashes_short (texts (drop (c.loop-name.name-index + 1) c.args.names.now)) _ c.from_residual-in_err-push-in-Ok.ensures.1 c.loop-name.invariant (named (a_target _ Sha256) c.in-Ok.ensures.reads))

pub loop-name-preserved : goal.loop-name-preserved
loop-name-preserved g c = rw (c.in_ok-push-in-Ok.ensures.items, first_texts c.args.names.now c.loop-name.name-index (record { ref_ptr = (0, 0); now = [] }) c.loop-name-test.true)
    (hashes_next c.loop-name.invariant (named (a_target _ Sha256) c.in-Ok.ensures.reads))

pub returns-clause-reads : goal.returns-clause-reads
returns-clause-reads g c = reads_into (λ h. h)
    (subst (λ (z : List (List ℕ)). Hashes z (g.S.Shelf.told c.args.shelf.now) (g.S.Shelf.told c.loop-name.shelf) (g.S.Shelf.faults c.args.shelf.now) (g.S.Shelf.faults c.loop-name.shelf) c.loop-name.digests.items)
    (ap texts (take_all c.loop-name.name-index c.args.names.now c.loop-name-test.false)) c.loop-name.invariant)

pub returns-clause-each : goal.returns-clause-each
returns-clause-each g c =
    as_many _ _ c.loop-name.digests.items c.loop-name.invariant.given ∙ length-map (take c.loop-name.name-index c.args.names.now) _
    ∙ ap length (take_all c.loop-name.name-index c.args.names.now c.loop-name-test.false)

pub returns-clause-sha256 : goal.returns-clause-sha256
returns-clause-sha256 g c = are_sha256 _ _ c.loop-name.digests.items (λ m. length_of_hashed Sha256 m) c.loop-name.invariant.given
