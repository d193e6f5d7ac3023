use Rattle.std.proofs.Common.{[], ◌∷◌, ap, refl, rules}
use Rattle.ots_client_endings.specs.Ending.{refused}
use Rattle.ots_client_endings.specs.Reading.{WithProof}
use Rattle.ots_client_endings.specs.Writing.{Writes}
use Rattle.ots_client_endings.proofs.Reading.{input_stops, reads_none, then_input}
use Rattle.ots_client_endings.proofs.Running.{input_told, read_finished, read_short, stop_told, text_finishes}
use Rattle.ots_client_inputs.proofs.Inputs.{a_proof}
use Rattle.ots_client_inputs.specs.Inputs.{proof_under}
use Rattle.ots_rewriting.specs.Merged.{Joins, Merges, differ, joined}
use Rattle.ots_tree.specs.declared.detached.Detached.{Detached}
use Rattle.ots_rewriting.proofs.merging.merge.Goals as goal

pub returns-in-Err-clause-runs : goal.returns-in-Err-clause-runs
returns-in-Err-clause-runs g c =
    input_told (λ told p. WithProof told c.args.second.now (Merges c.args.to.now p)) (proof_under c.args.second.now ∷ []) c.in-Err.stop (a_proof _) c.in-Err.ensures (c.refuse_stop.ensures.told _ _)

pub returns-in-Err-read_proof-clause-runs : goal.returns-in-Err-read_proof-clause-runs
returns-in-Err-read_proof-clause-runs g c =
    stop_told {A = Detached} (then_input {D = Merges c.args.to.now c.in-Ok.first} (λ told p. WithProof told c.args.second.now (Merges c.args.to.now p)) (a_proof _) c.in-Ok.ensures
    (input_stops (λ told. Merges c.args.to.now c.in-Ok.first) [] {stop = c.in-Err-read_proof.stop} (a_proof _) c.in-Err-read_proof.ensures)) (c.refuse_stop-in-Err-read_proof.ensures.told _ _)

pub returns-in-Ok-merge-clause-runs : goal.returns-in-Ok-merge-clause-runs
returns-in-Ok-merge-clause-runs g c =
    let reads = then_input {D = Merges c.args.to.now c.in-Ok.first} (λ told p. WithProof told c.args.second.now (Merges c.args.to.now p)) (a_proof _) c.in-Ok.ensures
    (then_input (λ told. Merges c.args.to.now c.in-Ok.first) (a_proof _) c.in-Ok-read_proof.ensures (reads_none {y = c.in-Ok-read_proof.second} (λ e h. h))) in
    read_finished (λ told. Joins told c.args.first.now c.args.second.now c.args.to.now) _ (Writes c.args.to.now c.in-Ok-merge.joined) reads
    (λ e is. reads.given e (joined c.in-Ok-merge.joined c.in-Ok-merge.ensures.ok is)) c.write_proof.ensures.finishes

pub returns-in-Err-Differs-clause-runs : goal.returns-in-Err-Differs-clause-runs
returns-in-Err-Differs-clause-runs g c =
    let reads = then_input {D = Merges c.args.to.now c.in-Ok.first} (λ told p. WithProof told c.args.second.now (Merges c.args.to.now p)) (a_proof _) c.in-Ok.ensures
    (then_input (λ told. Merges c.args.to.now c.in-Ok.first) (a_proof _) c.in-Ok-read_proof.ensures (reads_none {y = c.in-Ok-read_proof.second} (λ e h. h))) in
    read_finished (λ told. Joins told c.args.first.now c.args.second.now c.args.to.now) _ (Merges c.args.to.now c.in-Ok.first c.in-Ok-read_proof.second) reads reads.given
    (text_finishes (Merges c.args.to.now c.in-Ok.first c.in-Ok-read_proof.second) c.differing.result _ _ _ (differ (search rules) (ap (refused []) c.differing.ensures))
    c.refuse.ensures.sink.later c.refuse.ensures.printed)

pub returns-clause-runs : goal.returns-clause-runs
returns-clause-runs g c =
    read_short (then_input {D = Merges c.args.to.now c.in-Ok.first} (λ told p. WithProof told c.args.second.now (Merges c.args.to.now p)) (a_proof _) c.in-Ok.ensures
    (then_input (λ told. Merges c.args.to.now c.in-Ok.first) (a_proof _) c.in-Ok-read_proof.ensures (reads_none {y = c.in-Ok-read_proof.second} (λ e h. h)))) refl
