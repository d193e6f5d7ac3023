use Rattle.std.proofs.Common.{[], refl}
use Rattle.ots_client_endings.proofs.Running.{input_finished, input_short, input_told}
use Rattle.ots_client_inputs.proofs.Inputs.{a_proof}
use Rattle.ots_client_endings.specs.Writing.{Writes, WritesOf}
use Rattle.ots_rewriting.specs.Rewritten.{IsRewritten}
use Rattle.ots_rewriting.proofs.rewriting.rewrite.Goals as goal

pub returns-in-Ok-rewritten-clause-runs : goal.returns-in-Ok-rewritten-clause-runs
returns-in-Ok-rewritten-clause-runs g c =
    input_finished (λ told p. WritesOf c.args.to.now (IsRewritten c.args.way p)) (a_proof _) c.in-Ok.ensures (Writes c.args.to.now c.in-Ok-rewritten.made)
    (λ e is. (c.in-Ok-rewritten.made, c.in-Ok-rewritten.ensures, is)) c.write_proof.ensures.finishes

pub returns-in-Ok-clause-runs : goal.returns-in-Ok-clause-runs
returns-in-Ok-clause-runs g c = input_short (λ told p. WritesOf c.args.to.now (IsRewritten c.args.way p)) (a_proof _) c.in-Ok.ensures refl

pub returns-clause-runs : goal.returns-clause-runs
returns-clause-runs g c = input_told (λ told p. WritesOf c.args.to.now (IsRewritten c.args.way p)) [] c.in-Err.stop (a_proof _) c.in-Err.ensures (c.refuse_stop.ensures.told _ _)
