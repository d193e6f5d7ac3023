use Rattle.std.proofs.Common.{◌∙◌, ap, sym}
use Rattle.std.specs.Prelude.{option_map}
use Rattle.ots_arguments.proofs.Forms.{form_taken, form_refused}
use Rattle.ots_calendar_words.specs.Words.{arguments_of, command_in, read_as, word_of}
use Rattle.ots_calendar_words.proofs.Forms.{are_simple}
use Rattle.ots_calendar_words.proofs.words.read_form.Goals as goal

pub read_arguments-requires : goal.read_arguments-requires
read_arguments-requires c = rw (c.word.ensures, c.arguments.ensures) (are_simple c.args.form)

pub returns-in-Some : goal.returns-in-Some
returns-in-Some c =
    form_taken (word_of c.args.form) (arguments_of c.args.form) (command_in c.args.form) _ _ _ c.word.ensures c.arguments.ensures _ _
    c.in-Ok.ensures.taken c.in-Ok.ensures.values (sym c.command_in.ensures ∙ ap (option_map read_as) c.in-Some.is)

pub returns-in-Ok : goal.returns-in-Ok
returns-in-Ok c = λ usage.
    form_taken (word_of c.args.form) (arguments_of c.args.form) (command_in c.args.form) _ _ _ c.word.ensures c.arguments.ensures _ _
    c.in-Ok.ensures.taken c.in-Ok.ensures.values (sym c.command_in.ensures ∙ ap (option_map read_as) c.in-None.is)

pub returns : goal.returns
returns c = λ usage.
    form_refused (word_of c.args.form) (arguments_of c.args.form) (command_in c.args.form) _ _ _ c.word.ensures c.arguments.ensures (c.in-Err.ensures.refused usage)
