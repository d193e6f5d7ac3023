-- Each command is one that clap takes, and what its words ask for.
use Rattle.std.proofs.Common.{◌≡◌, ◌≢◌, Bool, true, false, List, refl, ap, sym, ◌∙◌}
use Rattle.std.specs.Prelude.{Option, None}
use Rattle.clap.proofs.OnLiterals.{clap_on_literals}
use Rattle.clap.specs.Walk.{Row, Text}
use Rattle.clap.specs.Words.{is_simple_and_free, matches_of}
use Rattle.ots_archive_words.specs.Words.{ArchiveCommand, app_for, asked_by, command_in}
use Rattle.ots_archive_words.specs.declared.words.Form.{Form}
use Rattle.ots_archive_words.specs.declared.words.Form.TheVariants.{Draft, Ask, Take}
use Rattle.ots_arguments.specs.Arguments.{is_taken}

pub are_simple : (form : Form) → is_simple_and_free (app_for form) ≡ true
unfolding clap_on_literals app_for
are_simple Draft = refl
are_simple Ask = refl
are_simple Take = refl

is_false : (b : Bool) → b ≢ true → b ≡ false
is_false true other = absurd (other refl)
is_false false other = refl

-- words that are taken ask for what the values make
pub words_taken : (form : Form) (words : List Text) (rows : List Row) (c : Option ArchiveCommand) → is_taken (app_for form) words ≡ true
    → rows ≡ matches_of (app_for form) words → command_in form rows ≡ c → asked_by form words ≡ c
words_taken form words rows c taken are is = rw taken (ap (command_in form) (sym are) ∙ is)

-- others ask for nothing
pub words_refused : (form : Form) (words : List Text) → is_taken (app_for form) words ≢ true → asked_by form words ≡ None
words_refused form words other = rw (is_false _ other) refl
