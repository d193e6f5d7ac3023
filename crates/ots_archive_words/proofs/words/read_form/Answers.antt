use Rattle.std.proofs.Common.{◌≡◌, ◌∙◌, ap, sym, rules}
use Rattle.std.specs.Prelude.{option_map}
use Rattle.ots_arguments.specs.declared.error.WordsError.TheVariants.{Usage}
use Rattle.ots_archive_words.specs.Words.{read_as}
use Rattle.ots_archive_words.proofs.Forms.{words_taken, words_refused}
use Rattle.ots_archive_words.proofs.words.read_form.Goals as goal

pub returns-in_err-matches : goal.returns-in_err-matches
returns-in_err-matches c =
    let refused = λ (usage : c.in_err-matches.field-0.0 ≡ Usage). words_refused c.args.form _ (c.in_err-matches.ensures.refused usage) in
    search (rules, refused)

pub returns-in-Some : goal.returns-in-Some
returns-in-Some c =
    words_taken c.args.form _ _ _ c.in_ok-matches.ensures.taken c.in_ok-matches.ensures.values (sym c.in_ok-found.ensures ∙ ap (option_map read_as) c.in-Some.is)

pub returns : goal.returns
returns c = λ usage.
    words_taken c.args.form _ _ _ c.in_ok-matches.ensures.taken c.in_ok-matches.ensures.values (sym c.in_ok-found.ensures ∙ ap (option_map read_as) c.in-None.is)
