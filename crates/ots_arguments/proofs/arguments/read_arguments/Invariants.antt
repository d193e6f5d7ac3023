use Rattle.std.proofs.Common.{◌≡◌, drop}
use Rattle.std.specs.Prelude.{map}
use Rattle.clap.specs.Words.{app_of}
use Rattle.ots_arguments.specs.Arguments.{described, simple, with_arguments}
use Rattle.ots_arguments.proofs.arguments.read_arguments.Given as goal

-- With the arguments that are still to come, the command is the whole one.
abbrev pub invariant-loop-argument : goal.invariant-loop-argument
invariant-loop-argument l = with_arguments (app_of l.command) (map described (drop l.argument-index l.arguments)) ≡ simple l.fn.name (map described l.arguments)
