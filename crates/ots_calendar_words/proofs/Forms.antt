-- Each command's form is one that clap takes.
use Rattle.std.proofs.Common.{◌≡◌, true, refl}
use Rattle.clap.specs.Words.{is_simple_and_free}
use Rattle.clap.proofs.OnLiterals.{clap_on_literals}
use Rattle.ots_arguments.specs.Arguments.{simple}
use Rattle.ots_calendar_words.specs.Words.{arguments_of, word_of}
use Rattle.ots_calendar_words.specs.declared.words.Form.{Form}
use Rattle.ots_calendar_words.specs.declared.words.Form.TheVariants.{Serve, Batch, Tip, Anchor, List as Listing, Migrate}

pub are_simple : (form : Form) → is_simple_and_free (simple (word_of form) (arguments_of form)) ≡ true
unfolding clap_on_literals simple
are_simple Serve = refl
are_simple Batch = refl
are_simple Tip = refl
are_simple Anchor = refl
are_simple Listing = refl
are_simple Migrate = refl
