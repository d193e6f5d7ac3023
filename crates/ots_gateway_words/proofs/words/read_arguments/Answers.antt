use Rattle.std.proofs.Common.{sym, ◌∙◌}
use Rattle.std.specs.Prelude.{map, string_bytes}
use Rattle.ots_arguments.proofs.Parsed.{values_are, taken_at, refused_at}
use Rattle.ots_gateway_words.proofs.Forms.{is_simple, same_values, same_words}
use Rattle.ots_gateway_words.proofs.words.read_arguments.Goals as goal

pub returns-in-Ok-clause-taken : goal.returns-in-Ok-clause-taken
returns-in-Ok-clause-taken c =
    sym (same_words (map string_bytes c.args.words.now)) ∙ taken_at _ _ _ c.in-Ok.matches c.in_ok-command.ensures is_simple c.in-Ok.ensures.kinds

pub returns-in-Ok-clause-values : goal.returns-in-Ok-clause-values
returns-in-Ok-clause-values c =
    values_are _ _ _ c.in-Ok.matches c.in_ok-command.ensures is_simple c.in-Ok.ensures.matches ∙ same_values (map string_bytes c.args.words.now)

pub returns : goal.returns
returns c = record {
  taken = tt;
  values = tt;
  refused = λ usage taken.
      refused_at _ _ _ c.in-Err.error c.in_ok-command.ensures is_simple c.in-Err.ensures.kinds (λ e. c.in_default.not-OutOfMemory (c.kind.ensures ∙ e))
      (same_words (map string_bytes c.args.words.now) ∙ taken);
}
