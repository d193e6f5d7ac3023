use Rattle.std.proofs.Common.{◌∙◌}
use Rattle.ots_arguments.proofs.Parsed.{values_are, taken_at, refused_at}
use Rattle.ots_archive_words.proofs.Forms.{are_simple}
use Rattle.ots_archive_words.proofs.words.read_arguments.Goals as goal

pub returns-in-Ok-clause-taken : goal.returns-in-Ok-clause-taken
returns-in-Ok-clause-taken c = taken_at _ _ _ c.in-Ok.matches c.in_ok-command.ensures (are_simple c.args.form) c.in-Ok.ensures.kinds

pub returns-in-Ok-clause-values : goal.returns-in-Ok-clause-values
returns-in-Ok-clause-values c = values_are _ _ _ c.in-Ok.matches c.in_ok-command.ensures (are_simple c.args.form) c.in-Ok.ensures.matches

pub returns : goal.returns
returns c = record {
  taken = tt;
  values = tt;
  refused = λ usage. refused_at _ _ _ c.in-Err.error c.in_ok-command.ensures (are_simple c.args.form) c.in-Err.ensures.kinds (λ e. c.in_default.not-OutOfMemory (c.kind.ensures ∙ e));
}
