use Rattle.std.proofs.Common.{ap, inl, inr}
use Rattle.std.specs.Prelude.{Some}
use Rattle.ots_checking.specs.Sampled.{Samples}
use Rattle.ots_cli.specs.Answer.{Answers}
use Rattle.ots_cli.proofs.Hears.{heard}
use Rattle.ots_cli.proofs.Ran.{left_short, of_verify}
use Rattle.ots_client_endings.specs.Outside.{Happens}
use Rattle.ots_client_endings.proofs.Running.{only_finished, runs_as}
use Rattle.ots_client_words.specs.Words.{read_upgrading, read_verification, upgrade}
use Rattle.ots_cli.proofs.run.run_command.Goals as goal

pub returns-in-Info-clause-runs : goal.returns-in-Info-clause-runs
returns-in-Info-clause-runs g c = rw c.in-Info.is c.info.ensures.runs

pub returns-in-Canon-clause-runs : goal.returns-in-Canon-clause-runs
returns-in-Canon-clause-runs g c = rw c.in-Canon.is c.rewrite.ensures.runs

pub returns-in-Merge-clause-runs : goal.returns-in-Merge-clause-runs
returns-in-Merge-clause-runs g c = rw c.in-Merge.is c.merge.ensures.runs

pub returns-in-Prune-clause-runs : goal.returns-in-Prune-clause-runs
returns-in-Prune-clause-runs g c = rw c.in-Prune.is c.rewrite-in-Prune.ensures.runs

pub returns-in-Verify-clause-runs : goal.returns-in-Verify-clause-runs
returns-in-Verify-clause-runs g c = rw c.in-Verify.is c.verify.ensures.runs

pub returns-in-Stamp-clause-runs : goal.returns-in-Stamp-clause-runs
returns-in-Stamp-clause-runs g c = rw c.in-Stamp.is c.stamp.ensures.runs

pub returns-in-Chain-clause-runs : goal.returns-in-Chain-clause-runs
returns-in-Chain-clause-runs g c = rw c.in-Chain.is c.chain.ensures.runs

pub returns-in-Upgrade-clause-runs : goal.returns-in-Upgrade-clause-runs
returns-in-Upgrade-clause-runs g c =
    rw c.in-Upgrade.is
    (runs_as (Answers (Happens g.D.Dialer.told g.D.Dialer.faults g.N.Nonces.left g.N.Nonces.faults c.args.dialer.now c.upgrade.new.dialer c.args.nonces.now c.args.nonces.now)
    (Some (upgrade (read_upgrading c.in-Upgrade.asked))))
    (λ e h. (h.0, heard g.D.Dialer.told g.D.Dialer.faults g.N.Nonces.left g.N.Nonces.faults c.args.dialer.now c.upgrade.new.dialer c.args.nonces.now h.0 h.1, h.2)) c.upgrade.ensures.runs)

pub returns-in-Sample-clause-runs : goal.returns-in-Sample-clause-runs
returns-in-Sample-clause-runs g c = rw c.in-Sample.is (elim (c.sample.ensures.finishes (g.S.Shelf.told c.args.shelf.now) (g.S.Shelf.faults c.args.shelf.now)) [
  | inl finishes ↦ only_finished (λ told. Samples c.in-Sample.asked.paths) (Samples c.in-Sample.asked.paths) (λ e is. is) finishes
  | inr (ran, left) ↦ left_short _ _ ran (ap g.K.Sink.taken left) (ap g.K.Sink.faults left)
])

pub returns-in-Verify-clause-bounded : goal.returns-in-Verify-clause-bounded
returns-in-Verify-clause-bounded g c = rw c.in-Verify.is (of_verify (read_verification c.in-Verify.asked) (g.S.Shelf.told c.args.shelf.now) (g.S.Shelf.told c.verify.new.shelf) c.verify.result c.verify.ensures.bounded)
