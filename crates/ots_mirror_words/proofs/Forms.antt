-- The form is one that clap takes.
use Rattle.std.proofs.Common.{◌≡◌, true, refl}
use Rattle.clap.specs.Words.{is_simple_and_free}
use Rattle.clap.proofs.OnLiterals.{clap_on_literals}
use Rattle.ots_arguments.specs.Arguments.{simple}
use Rattle.ots_mirror_words.specs.Words.{arguments, name}

pub is_simple : is_simple_and_free (simple name arguments) ≡ true
unfolding clap_on_literals simple
is_simple = refl
