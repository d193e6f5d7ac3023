use Rattle.std.proofs.Common.{◌∙◌, ap, rules}
use Rattle.clap.specs.Words.{app_of, with_rule}
use Rattle.ots_arguments.proofs.Parsed.{none_added, one_added, all_added, values_are, taken_at, refused_at}
use Rattle.ots_arguments.proofs.arguments.read_arguments.Goals as goal

pub loop-argument-init : goal.loop-argument-init
loop-argument-init c = none_added (app_of c.new-command.result) c.args.name.now c.args.arguments.now c.new-command.ensures.app

pub loop-argument-preserved : goal.loop-argument-preserved
loop-argument-preserved c =
    one_added (app_of c.loop-argument.command) (app_of c.in_ok-command.command) _ c.args.arguments.now c.loop-argument.argument-index _
    c.loop-argument-test.true (c.in_ok-command.ensures.shape (search rules) ∙ ap (with_rule (app_of c.loop-argument.command)) c.to_clap.ensures.rule) c.loop-argument.invariant

pub returns-in-Ok-clause-taken : goal.returns-in-Ok-clause-taken
returns-in-Ok-clause-taken c =
    taken_at _ _ _ c.in-Ok.matches (all_added _ _ c.args.arguments.now c.loop-argument.argument-index c.loop-argument-test.false c.loop-argument.invariant) c.requires c.in-Ok.ensures.kinds

pub returns-in-Ok-clause-values : goal.returns-in-Ok-clause-values
returns-in-Ok-clause-values c =
    values_are _ _ _ c.in-Ok.matches (all_added _ _ c.args.arguments.now c.loop-argument.argument-index c.loop-argument-test.false c.loop-argument.invariant) c.requires c.in-Ok.ensures.matches

pub returns-clause-refused : goal.returns-clause-refused
returns-clause-refused c = λ usage.
    refused_at _ _ _ c.in-Err.error (all_added _ _ c.args.arguments.now c.loop-argument.argument-index c.loop-argument-test.false c.loop-argument.invariant) c.requires c.in-Err.ensures.kinds (λ e. c.in_default.not-OutOfMemory (c.kind.ensures ∙ e))
