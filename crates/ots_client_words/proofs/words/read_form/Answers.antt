use Rattle.std.proofs.Common.{◌≡◌, ◌∙◌, ap, sym, rules}
use Rattle.std.specs.Prelude.{option_map}
use Rattle.ots_arguments.specs.declared.error.WordsError.TheVariants.{Usage}
use Rattle.ots_arguments.proofs.Forms.{form_taken, form_refused}
use Rattle.ots_client_words.specs.Words.{arguments_of, command_in, read_as, word_of}
use Rattle.ots_client_words.proofs.Forms.{are_simple}
use Rattle.ots_client_words.proofs.words.read_form.Goals as goal

pub read_arguments-requires : goal.read_arguments-requires
read_arguments-requires c = rw (c.word.ensures, c.arguments.ensures) (are_simple c.args.form)

pub returns-in_err-matches : goal.returns-in_err-matches
returns-in_err-matches c =
    let refused = λ (usage : c.in_err-matches.field-0.0 ≡ Usage).
    form_refused (word_of c.args.form) (arguments_of c.args.form) (command_in c.args.form) _ _ _ c.word.ensures c.arguments.ensures (c.in_err-matches.ensures.refused usage) in
    search (rules, refused)

pub returns-in-Some : goal.returns-in-Some
returns-in-Some c =
    form_taken (word_of c.args.form) (arguments_of c.args.form) (command_in c.args.form) _ _ _ c.word.ensures c.arguments.ensures _ _
    c.in_ok-matches.ensures.taken c.in_ok-matches.ensures.values (sym c.in_ok-found.ensures ∙ ap (option_map read_as) c.in-Some.is)

pub returns : goal.returns
returns c = λ usage.
    form_taken (word_of c.args.form) (arguments_of c.args.form) (command_in c.args.form) _ _ _ c.word.ensures c.arguments.ensures _ _
    c.in_ok-matches.ensures.taken c.in_ok-matches.ensures.values (sym c.in_ok-found.ensures ∙ ap (option_map read_as) c.in-None.is)
