use Rattle.std.proofs.Common.{rules, arith}
use Rattle.std.proofs.lemmas.Grind.{common_steps}
use Rattle.ots_outside.proofs.Inputs.{wrote_more}
use Rattle.ots_outside.proofs.writing.write_all.Goals as goal

pub loop-at-preserved : goal.loop-at-preserved
loop-at-preserved g c = record {
  in_range = grind (arith, common_steps);
  written = wrote_more _ _ _ c.args.bytes.now c.loop-at.at _ _ (grind (arith, common_steps)) c.loop-at.invariant.written c.in_ok-at.ensures.bytes;
  later = search rules;
  same = search rules;
}
