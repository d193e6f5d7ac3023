-- The command by which clap reads the words. All of them are its arguments: none stands for the program's name.
use Rattle.std.specs.Prelude.{true}
use Rattle.clap.specs.Simple.{App, on_top}
use Rattle.ots_arguments.specs.Arguments.{simple}
use Rattle.ots_gateway_words.specs.Words.{arguments, name}

abbrev pub command : App
command = on_top (λ s. record s { no_binary_name = true }) (simple name arguments)
