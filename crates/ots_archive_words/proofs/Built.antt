-- Arguments that are added to a command one by one.
use Rattle.std.proofs.Common.{◌≡◌, false, Result, Ok, Err, ap, ◌∙◌}
use Rattle.std.specs.Prelude.{IfOk}
use Rattle.clap.specs.Walk.{Rule}
use Rattle.clap.specs.Words.{AddsArg, App, app_of, rule_of, with_rule}
use Rattle.clap.specs.declared.builder.arg.Arg.{Arg}
use Rattle.clap.specs.declared.builder.command.Command.{Command}

module _ (old : Command) (app : App) (is : app_of old ≡ app) (a : Arg) (rule : Rule) (has : rule_of a ≡ rule) (local : a.global ≡ false) where
  pub grown : (new : Command) → AddsArg old a new → app_of new ≡ with_rule app rule
  grown new adds = adds.shape local ∙ ap (λ (z : App). with_rule z (rule_of a)) is ∙ ap (with_rule app) has

  pub perhaps_grown : {E : Type 0} (r : Result Command E) → IfOk r (AddsArg old a) → IfOk r (λ new. app_of new ≡ with_rule app rule)
  perhaps_grown (Ok new) adds = grown new adds
  perhaps_grown (Err e) adds = tt
