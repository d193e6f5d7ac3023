-- Each command's form is one that clap takes.
use Rattle.std.proofs.Common.{◌≡◌, true, refl}
use Rattle.clap.specs.Words.{is_simple_and_free}
use Rattle.clap.proofs.OnLiterals.{clap_on_literals}
use Rattle.ots_arguments.specs.Arguments.{simple}
use Rattle.ots_client_words.specs.Words.{arguments_of, word_of}
use Rattle.ots_client_words.specs.declared.words.Form.{Form}
use Rattle.ots_client_words.specs.declared.words.Form.TheVariants.{Info, Canon, Merge, Prune, Verify, Stamp, Upgrade, Sample, Chain}

pub are_simple : (form : Form) → is_simple_and_free (simple (word_of form) (arguments_of form)) ≡ true
unfolding clap_on_literals simple
are_simple Info = refl
are_simple Canon = refl
are_simple Merge = refl
are_simple Prune = refl
are_simple Verify = refl
are_simple Stamp = refl
are_simple Upgrade = refl
are_simple Sample = refl
are_simple Chain = refl
